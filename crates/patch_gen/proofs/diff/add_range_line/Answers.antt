use Rattle.std.proofs.Common.{List, ℕ, length, sym, ap, ◌∙◌}
use Rattle.patch_gen.proofs.diff.add_range_line.Goals as goal

pub slice_bounds-extend_from_slice-end-2 : goal.slice_bounds-extend_from_slice-end-2
slice_bounds-extend_from_slice-end-2 c = c.put_number-count.ensures.count ∙ sym (ap (λ (l : List ℕ). length l) c.put_number-count.ensures.digits)

pub slice_bounds-extend_from_slice-end-4 : goal.slice_bounds-extend_from_slice-end-4
slice_bounds-extend_from_slice-end-4 c = c.put_number-count.ensures.count ∙ sym (ap (λ (l : List ℕ). length l) c.put_number-count.ensures.digits)
