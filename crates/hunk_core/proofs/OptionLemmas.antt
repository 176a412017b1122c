-- Steps that gave a value.
use Rattle.std.proofs.Common.{◌≡◌, Option, None, Some, refl, ℕ, false, List}
use Rattle.hunk_core.specs.OptionSteps.{◌>>=◌}
use Rattle.std.specs.Prelude.{is_some}

pub some_step : {A B : Type 0} (r : Option A) (f : A → Option B) (y : B) → (r >>= f) ≡ Some y → (x : A) × (r ≡ Some x) × (f x ≡ Some y)
some_step (Some x) f y e = (x, refl, e)
some_step None f y e = absurd cc

pub is_none : (o : Option (List (List ℕ))) → is_some o ≡ false → o ≡ None
is_none None e = refl
is_none (Some x) e = absurd cc
