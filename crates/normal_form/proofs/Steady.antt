-- Readings of the normal form: a fault is decided by its own line.
use Rattle.std.proofs.Common.{ℕ, List, Option, Result, arith}
use Rattle.hunk_core.specs.LineTests.{after_backslash}
use Rattle.hunk_core.specs.Reading.{Fault, Ahead}
use Rattle.hunk_core.proofs.Steady.{SteadyTo, one_line, FailsHere, line-steady, peek_by, peek-steady}

-- a reading that looks no further than the line of its fault
abbrev pub Steady : {A : Type 0} → (Ahead → Result (A × Ahead) Fault) → Type 0
Steady f = SteadyTo (λ e. e.line) f

pub steady-line : {A : Type 0} (take : ℕ → List ℕ → Result A Fault) → FailsHere take → Steady (λ p. one_line take p.number p.rest)
steady-line take here = line-steady (λ e. omega arith) take here

pub steady-peek : {A : Type 0} (a : A) (b : Option A) → Steady (λ p. peek_by a b p (after_backslash p.rest))
steady-peek a b = peek-steady (λ e. omega arith) a b
