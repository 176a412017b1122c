use Rattle.series_stack.proofs.Taking.{head-added}
use Rattle.std.proofs.lemmas.Result.{on_ok_weaker}
use Rattle.std.proofs.Common.{List, ap, length, sym, ℕ, ◌∙◌}
use Rattle.series_stack.proofs.take.add_head.Goals as goal

pub returns : goal.returns
returns c = on_ok_weaker c.add_line.result (λ added. head-added c.args.text.now.items c.args.name.now c.args.size _ _ _ _ _ c.in_ok-extend_from_slice.ensures.items c.put_number-count.ensures.digits c.in_ok-extend_from_slice-2.ensures.items c.in_ok-extend_from_slice-3.ensures.items added) c.add_line.ensures

pub slice_bounds-extend_from_slice-end-2 : goal.slice_bounds-extend_from_slice-end-2
slice_bounds-extend_from_slice-end-2 c = c.put_number-count.ensures.count ∙ sym (ap (λ (l : List ℕ). length l) c.put_number-count.ensures.digits)
