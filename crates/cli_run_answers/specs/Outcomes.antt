-- What a command comes to that keeps no receipt.
use Rattle.std.specs.Prelude.{ℕ, List, []}
use Rattle.outside.specs.Quiet.{Effect}
use Rattle.cli_run_answers.specs.declared.why.Why.{Why}

pub record Outcome : Type 0 where
  pub why : Why
  -- what goes to standard output
  pub text : List ℕ
  pub effects : List Effect

-- a refusal says nothing and changes nothing
abbrev pub refused : Why → Outcome
refused why = record { why = why; text = []; effects = [] }
