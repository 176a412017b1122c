-- What a source tells.
use Rattle.std.specs.Prelude.{◌≡◌, ℕ, ◌≤◌, List, Option, is_some, Result, IsErr}
use Rattle.std.proofs.Common.{refl, ◌∙◌, arith}
use Rattle.outside.specs.Faults.{HasRisen}

pub record SourceView : Type 0 where
  -- what is left, where it tells it
  pub told : Option (List ℕ)
  pub faults : ℕ

-- calls were made: the count never falls, and what was told is told on
pub record SourcePasses (old new : SourceView) : Type 0 where
  pub counts : old.faults ≤ new.faults
  pub telling : is_some new.told ≡ is_some old.told

-- no call is none, and calls that go on from calls are calls
pub source_passes_none : (v : SourceView) → SourcePasses v v
source_passes_none v = record { counts = omega arith; telling = refl }

pub source_passes_both : {u v w : SourceView} → SourcePasses u v → SourcePasses v w → SourcePasses u w
source_passes_both a b = record { counts = omega (arith, a.counts, b.counts); telling = b.telling ∙ a.telling }

-- one call or several
pub record IsSourceCall {R E : Type 0} (old new : SourceView) (result : Result R E) : Type 0 where
  pub passes : SourcePasses old new
  pub cause : IsErr result → HasRisen old.faults new.faults
