use Rattle.std.proofs.Common.{List, ap, length, sym, ℕ, ◌∙◌}
use Rattle.num_text.specs.Numbers.{decimal}
use Rattle.stack_state.proofs.Held.{text-made}
use Rattle.stack_state.proofs.names.save_text.Goals as goal

pub slice_bounds-extend_from_slice-end-2 : goal.slice_bounds-extend_from_slice-end-2
slice_bounds-extend_from_slice-end-2 c = c.put_number-count.ensures.count ∙ sym (ap (λ (l : List ℕ). length l) c.put_number-count.ensures.digits)

pub returns : goal.returns
returns c = text-made c.args.number _ _ _ _ _ c.new-text.ensures.items c.in_ok-extend_from_slice.ensures.items (c.put_number-count.ensures.digits ∙ ap decimal c.from.ensures) c.in_ok-extend_from_slice-2.ensures.items c.in_ok-extend_from_slice-3.ensures.items
