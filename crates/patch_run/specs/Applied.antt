-- The receipt of a run.
use Rattle.std.specs.Prelude.{ℕ, Bool}

pub record Receipt : Type 0 where
  pub is_bad : Bool
  pub done : ℕ
  pub effects : ℕ
