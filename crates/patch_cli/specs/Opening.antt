-- What comes before the first change.
use Rattle.std.specs.Prelude.{◌≡◌, ℕ, Bool, List, Result, Ok}
use Rattle.outside.specs.Files.{Files}
use Rattle.patch_options.specs.PlainJob.{PlainOptions, PlainJob}
use Rattle.patch_options.specs.PlainJob.PlainJob.{patch}
use Rattle.patch_options.specs.declared.options.WordFault.{WordFault}
use Rattle.patch_set.specs.SetView.{SetView, IsRead, plain_patches}
use Rattle.apply_backup_numbers.specs.Numbering.{asks_numbers}
use Rattle.patch_cli.specs.Numbered.{IsMade}
use Rattle.patch_cli.specs.Returns.{strips_returns}
use Rattle.cli_run_answers.specs.declared.why.Why.{Why}
use Rattle.patch_cli.specs.Answers.{Sort, sort_of}
use Rattle.patch_cli.specs.Answers.Sort.{ended, halted, refusal, unread, broken, starved}
use Rattle.patch_run.specs.Outcome.{refused}
use Rattle.patch_cli.specs.Command.{Reads, on_job}
use Rattle.patch_cli.specs.Worlds.{World, TellsInput}
use Rattle.patch_cli.specs.Causes.{HasCause}
use Rattle.patch_run.specs.Finishes.{CanApply}

-- where it is told what they read, the patch text that these options name is this set, but for numbers of backups, and it is known whether carriage
-- returns were taken off
pub record IsAsked (o : PlainOptions) (strips : Bool) (v : SetView) (u : World) : Type 0 where
  pub can : CanApply o v
  pub before : SetView
  pub given : List ℕ
  pub read : IsRead o given before
  pub made : IsMade (asks_numbers o) o.numbers u.tree.told before v
  pub reads : (f : Files) (left : List ℕ) → TellsInput (Ok (patch o)) u f left → Reads o f left before.text (plain_patches before)
  pub stripped : (f : Files) (left : List ℕ) (told : TellsInput (Ok (patch o)) u f left) → strips ≡ strips_returns o (reads f left told).bytes

-- where it is told what is read, the job ends so
abbrev pub EndsSo : Why → Result PlainJob WordFault → World → Type 0
EndsSo why job u = (f : Files) (left : List ℕ) → TellsInput job u f left → on_job job f left ≡ refused why f

abbrev pub StopsBy : Sort → Why → Result PlainJob WordFault → World → Type 0
StopsBy ended why job u = ⊥
StopsBy halted why job u = ⊥
StopsBy refusal why job u = EndsSo why job u
StopsBy unread why job u = Unit {0}
StopsBy broken why job u = Unit {0}
StopsBy starved why job u = Unit {0}

-- the run ends so before the first change
pub record StopsEarly (why : Why) (job : Result PlainJob WordFault) (u w : World) : Type 0 where
  pub cause : HasCause why job u w
  pub stops : StopsBy (sort_of why) why job u
