-- The command of a line, as far as it is read.
use Rattle.std.proofs.Common.{◌≡◌, ℕ, true, false, List, None, Some, refl, sym}
use Rattle.hunk_core.specs.declared.command.Action.{Action}
use Rattle.hunk_core.specs.Letters.{action_at, is_line_end}
use Rattle.num_text.specs.declared.range.NumberRange.{NumberRange}
use Rattle.num_text.specs.NumberRanges.{range_at}
use Rattle.ed_form.specs.Commands.{parts_at}

module _ (line : List ℕ) where
  pub no-range : range_at line ≡ None → parts_at line ≡ None
  unfolding parts_at
  no-range e = rw e refl

  module _ (range : NumberRange) (rest : List ℕ) (first : range_at line ≡ Some (range, rest)) where
    pub no-action : action_at rest ≡ None → parts_at line ≡ None
    unfolding parts_at
    no-action e = rw (first, e) refl

    module _ (action : Action) (last : List ℕ) (second : action_at rest ≡ Some (action, last)) where
      pub goes-on : false ≡ is_line_end last → None ≡ parts_at line
      unfolding parts_at
      goes-on e = rw (first, second, sym e) refl

      pub ends-so : true ≡ is_line_end last → Some (record { range = range; action = action }) ≡ parts_at line
      unfolding parts_at
      ends-so e = rw (first, second, sym e) refl
