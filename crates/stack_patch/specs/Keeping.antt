-- What a stack keeps whose patches are read so.
use Rattle.std.specs.Prelude.{◌≡◌, ℕ, suc, [], take, None, Ok}
use Rattle.std.specs.FinMap.{get}
use Rattle.outside.specs.Files.{Files, SameLasting}
use Rattle.outside.specs.Quiet.{after_all}
use Rattle.series_stack.specs.Stack.{Stack, Refusal, save_name, stack_of, recover}
use Rattle.series_stack.specs.Commands.{Reader, StackOp}
use Rattle.series_stack.specs.Commands.Ending.{Done}
use Rattle.series_stack.specs.Commands.StackOp.{Push}
use Rattle.series_stack.specs.Outcomes.{command}
use Rattle.series_stack.specs.Outcomes.Answer.{Refused, Ended}
use Rattle.series_stack.specs.Laws.{IsFailedPush, HaveLastingTexts, files_after, stack_after, RefusesAs, TakesBack, Recovers}

-- a pop takes back a push that is done; each command that is done counts; a push that fails leaves what its files recover to, and a refused command leaves them; and what a stop leaves recovers to what the files before or after recover to, and has the next command refused as these have it
pub record KeepsItsStack (read : Reader) : Type 0 where
  pub undone : (f : Files) (s : Stack) → stack_of f ≡ Ok s → get f (save_name (suc (suc (suc s.applied)))) ≡ None → (command read Push f).answer ≡ Ended Done → TakesBack read f
  pub counted : (op : StackOp) (f : Files) (s : Stack) → stack_of f ≡ Ok s → (command read op f).answer ≡ Ended Done → stack_of (files_after read op f) ≡ Ok (stack_after op s)
  pub failed : (f : Files) → IsFailedPush (command read Push f).answer → SameLasting (recover f) (files_after read Push f)
  pub refused : (op : StackOp) (f : Files) (e : Refusal) → (command read op f).answer ≡ Refused e → (command read op f).effects ≡ []
  pub stopped : (op : StackOp) (f left : Files) (k : ℕ) → SameLasting (after_all (take k (command read op f).effects) f) left → Recovers f (files_after read op f) left
  pub next : (op other : StackOp) (f left : Files) (k : ℕ) → SameLasting (after_all (take k (command read op f).effects) f) left → ((s : Stack) → stack_of left ≡ Ok s → HaveLastingTexts s.patches) → RefusesAs read other f (files_after read op f) left
