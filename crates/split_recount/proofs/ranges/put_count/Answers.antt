use Rattle.std.proofs.Common.{◌++◌, ap, ◌∙◌}
use Rattle.split_recount.proofs.Bounds.{digits-taken, digits-within}
use Rattle.split_recount.proofs.Put.{on-put}
use Rattle.split_recount.proofs.ranges.put_count.Goals as goal

pub slice_bounds-digits-end : goal.slice_bounds-digits-end
slice_bounds-digits-end c = digits-within c.put_number-len.result c.put_number-len.new.out c.put_number-len.array_long c.put_number-len.ensures.few.1

pub slice_bounds-extend_from_slice-end : goal.slice_bounds-extend_from_slice-end
slice_bounds-extend_from_slice-end c = digits-taken c.put_number-len.result c.put_number-len.new.out c.put_number-len.array_long c.put_number-len.ensures.few.1

pub returns : goal.returns
returns c = on-put c.extend_from_slice.result _ _ _ c.extend_from_slice.ensures.items (λ e. e ∙ ap (λ l. c.args.out.now.items ++ l) c.put_number-len.ensures.digits)
