-- Parts of a command, on a quiet tree.
use Rattle.std.specs.Prelude.{◌≡◌, true, false, Some, Ok}
use Rattle.outside.specs.Files.{Files}
use Rattle.outside.specs.TreeView.{Passes}
use Rattle.outside.specs.SinkView.{SinkPasses}
use Rattle.outside.specs.ScratchView.{ScratchPasses}
use Rattle.outside.specs.Quiet.{IsQuiet, LeavesPrefix}
use Rattle.apply_task.specs.Making.{IsTidy}
use Rattle.cli_tool_words.specs.declared.jobs.StackOp.{StackOp}
use Rattle.cli_run_answers.specs.declared.why.Why.{Why}
use Rattle.cli_run_answers.specs.Answers.{is_own, is_early}
use Rattle.cli_run_answers.specs.Worlds.{World}
use Rattle.cli_run_answers.specs.Outcomes.{Outcome, refused}
use Rattle.cli_stack.specs.Command.{on_op}
use Rattle.cli_stack.specs.Worlds.{Tells}
use Rattle.cli_stack.specs.Causes.{HasCause}
use Rattle.cli_stack.specs.Carries.{Answers}

-- a part behind all refusals, to the command's end: it comes to this outcome of the files, or to a first part of it
pub record Comes (op : StackOp) (u w : World) (why : Why) (o : Files → Outcome) : Type 0 where
  pub tree : Passes u.tree w.tree
  pub scratch : ScratchPasses u.scratch w.scratch
  pub sink : SinkPasses u.out w.out
  pub cause : HasCause why (Ok op) u w
  pub late : is_early why ≡ false
  pub quiet : is_own why ≡ true → IsQuiet w.tree
  pub tidy : is_own why ≡ true → IsTidy u.tree w.tree
  pub answers : (f : Files) → Tells (Ok op) u f → Answers (is_own why) why f u w (o f)
  pub images : (f : Files) → Tells (Ok op) u f → LeavesPrefix u.tree w.tree (o f).effects

-- the command is refused so before its first effect; or a device failed, or memory ran out
pub record StopsEarly (why : Why) (op : StackOp) (u w : World) : Type 0 where
  pub cause : HasCause why (Ok op) u w
  pub early : is_own why ≡ true → is_early why ≡ true
  pub stops : is_own why ≡ true → (f : Files) → u.tree.told ≡ Some f → on_op op f ≡ refused why
