-- Steps that give a value or none, one after the other.
use Rattle.std.specs.Prelude.{Option, None, Some}

-- a step, and what follows it where it gave a value
infixl 10 ◌>>=◌
abbrev pub ◌>>=◌ : {A B : Type 0} → Option A → (A → Option B) → Option B
(Some x) >>= f = f x
None >>= f = None
