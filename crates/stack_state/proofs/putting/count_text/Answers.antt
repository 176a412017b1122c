use Rattle.std.proofs.Common.{List, ap, length, sym, ℕ, ◌∙◌}
use Rattle.stack_state.proofs.putting.count_text.Goals as goal

pub slice_bounds-extend_from_slice-end : goal.slice_bounds-extend_from_slice-end
slice_bounds-extend_from_slice-end c = c.put_number-length.ensures.count ∙ sym (ap (λ (l : List ℕ). length l) c.put_number-length.ensures.digits)
