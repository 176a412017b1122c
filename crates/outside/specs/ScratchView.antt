-- What a scratch tells.
use Rattle.std.specs.Prelude.{◌≡◌, ℕ, ◌+◌, ◌-◌, ◌^◌, ◌≤◌, List, ◌++◌, length, take, drop, min, Option, Some, is_some, Result, IsErr}
use Rattle.std.proofs.Common.{refl, ◌∙◌, arith}
use Rattle.outside.specs.Faults.{HasRisen}

pub record ScratchView : Type 0 where
  -- the bytes, where it tells them
  pub told : Option (List ℕ)
  pub faults : ℕ
  -- how often it was read, a u64 that stays at its greatest value
  pub reads : ℕ

-- calls were made: the count never falls, and what was told is told on
pub record ScratchPasses (old new : ScratchView) : Type 0 where
  pub counts : old.faults ≤ new.faults
  pub telling : is_some new.told ≡ is_some old.told

-- no call is none, and calls that go on from calls are calls
pub scratch_passes_none : (v : ScratchView) → ScratchPasses v v
scratch_passes_none v = record { counts = omega arith; telling = refl }

pub scratch_passes_both : {u v w : ScratchView} → ScratchPasses u v → ScratchPasses v w → ScratchPasses u w
scratch_passes_both a b = record { counts = omega (arith, a.counts, b.counts); telling = b.telling ∙ a.telling }

-- one call or several
pub record IsScratchCall {R E : Type 0} (old new : ScratchView) (result : Result R E) : Type 0 where
  pub passes : ScratchPasses old new
  pub cause : IsErr result → HasRisen old.faults new.faults

-- the place isn't past the end, where that is told
abbrev pub ReachesTo : ScratchView → ℕ → Type 0
ReachesTo v at = (b : List ℕ) → v.told ≡ Some b → at ≤ length b

-- bytes with a piece written over them from a place on
abbrev pub overwritten : List ℕ → ℕ → List ℕ → List ℕ
overwritten b at piece = take at b ++ piece ++ drop (at + length piece) b

-- one more, up to the greatest u64
abbrev pub counted : ℕ → ℕ
counted n = min (n + 1) (2 ^ 64 - 1)
