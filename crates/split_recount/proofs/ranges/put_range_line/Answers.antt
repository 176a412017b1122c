use Rattle.std.proofs.lemmas.Result.{IfOk-from_err}
use Rattle.split_recount.proofs.Put.{put-then, on-put}
use Rattle.split_recount.proofs.ranges.put_range_line.Goals as goal

pub returns-in_err-extend_from_slice : goal.returns-in_err-extend_from_slice
returns-in_err-extend_from_slice c = IfOk-from_err c.from_residual.result _ c.from_residual.ensures.0

pub returns-in_err-put_range : goal.returns-in_err-put_range
returns-in_err-put_range c = IfOk-from_err c.from_residual-in_err-put_range.result _ c.from_residual-in_err-put_range.ensures.0

pub returns-in_err-extend_from_slice-2 : goal.returns-in_err-extend_from_slice-2
returns-in_err-extend_from_slice-2 c = IfOk-from_err c.from_residual-in_err-extend_from_slice-2.result _ c.from_residual-in_err-extend_from_slice-2.ensures.0

pub returns-in_err-put_range-2 : goal.returns-in_err-put_range-2
returns-in_err-put_range-2 c = IfOk-from_err c.from_residual-in_err-put_range-2.result _ c.from_residual-in_err-put_range-2.ensures.0

pub returns-in_err-extend_from_slice-3 : goal.returns-in_err-extend_from_slice-3
returns-in_err-extend_from_slice-3 c = IfOk-from_err c.from_residual-in_err-extend_from_slice-3.result _ c.from_residual-in_err-extend_from_slice-3.ensures.0

pub returns : goal.returns
returns c =
    let out = c.args.out.now.items in
    on-put c.extend_from_slice-4.result _ _ _ c.extend_from_slice-4.ensures.items
    (λ e. put-then out _ _ c.in_ok-extend_from_slice.ensures.items (put-then c.extend_from_slice.new.self.items _ _ c.in_ok-put_range.ensures (put-then c.put_range.new.out.items _ _ c.in_ok-extend_from_slice-2.ensures.items
    (put-then c.extend_from_slice-2.new.self.items _ _ c.in_ok-put_range-2.ensures (put-then c.put_range-2.new.out.items _ _ c.in_ok-extend_from_slice-3.ensures.items e)))))
