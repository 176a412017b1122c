-- What a finder of patterns tells.
use Rattle.std.specs.Prelude.{◌≡◌, ℕ, List, Bool, false, Option, None, Some, Result, Ok, Err}
use Rattle.std.proofs.Common.{refl, ◌∙◌}
use Rattle.outside.specs.declared.finder.FindFault.{FindFault}
use Rattle.outside.specs.declared.finder.FindFault.TheVariants.{Refused, Memory}

pub record FinderView : Type 0 where
  -- the pattern that is kept
  pub kept : Option (List ℕ)
  -- it never refuses the pattern
  pub takes : List ℕ → Bool
  -- the line has what the pattern asks for
  pub hit : List ℕ → List ℕ → Bool

-- calls were made, which change neither what is taken nor what is found
pub record FinderPasses (old new : FinderView) : Type 0 where
  pub takes : new.takes ≡ old.takes
  pub hit : new.hit ≡ old.hit

-- no call is none, and calls that go on from calls are calls
pub finder_passes_none : (v : FinderView) → FinderPasses v v
finder_passes_none v = record { takes = refl; hit = refl }

pub finder_passes_both : {u v w : FinderView} → FinderPasses u v → FinderPasses v w → FinderPasses u w
finder_passes_both a b = record { takes = b.takes ∙ a.takes; hit = b.hit ∙ a.hit }

-- the pattern is kept; or it is refused, which a taken one never is, and none is kept
abbrev pub IsSet : FinderView → FinderView → List ℕ → Result (Unit {0}) FindFault → Type 0
IsSet old new pattern (Ok done) = new.kept ≡ Some pattern
IsSet old new pattern (Err Refused) = (old.takes pattern ≡ false) × (new.kept ≡ None)
IsSet old new pattern (Err Memory) = Unit {0}
