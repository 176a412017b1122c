-- `push -a` and `pop -a`: the command one time behind the other, to the end of the stack or to the first that isn't carried out (quilt(1), push
-- and pop).
use Rattle.std.specs.Prelude.{◌≡◌, ◌≢◌, ◌⊎◌, ℕ, zero, suc, Bool, true, false, Result, Err}
use Rattle.outside.specs.ScratchView.{ScratchView}
use Rattle.outside.specs.SinkView.{SinkView}
use Rattle.outside.specs.TreeView.{TreeView}
use Rattle.patch_options.specs.declared.options.WordFault.{WordFault}
use Rattle.cli_run_answers.specs.declared.why.Why.{Why}
use Rattle.cli_run_answers.specs.declared.why.Why.TheVariants.{Done, StackEnd, Memory}
use Rattle.cli_run_answers.specs.Answers.{of_words}
use Rattle.cli_run_answers.specs.Worlds.{World, world}
use Rattle.cli_tool_words.specs.declared.jobs.StackOp.{StackOp}
use Rattle.cli_stack.specs.Carries.{Carries}
use Rattle.cli_stack.specs.Jobs.{AsksFor, IsPushing}

-- the devices themselves at one moment
pub record Devices (T C O : Type 0) : Type 0 where
  pub tree : T
  pub scratch : C
  pub out : O

abbrev pub devices : {T C O : Type 0} → T → C → O → Devices T C O
devices tree scratch out = record { tree = tree; scratch = scratch; out = out }

-- what is promised of one command
pub record RunsOne {T C O : Type 0} (job : Result StackOp WordFault) (u w : World) (d e : Devices T C O) (why : Why) : Type 0 where
  pub carries : Carries job u w why
  -- words that give no operation are answered before any device is called
  pub words_first : (fault : WordFault) → job ≡ Err fault → (why ≡ of_words fault) ⊎ (why ≡ Memory)
  pub still : (fault : WordFault) → job ≡ Err fault → e.tree ≡ d.tree
  pub silent : (fault : WordFault) → job ≡ Err fault → e.out ≡ d.out
  -- only a push pages lines
  pub scratch : (AsksFor job IsPushing → ⊥) → e.scratch ≡ d.scratch

-- the same, of the devices at entry and at exit, by what they are seen as
abbrev pub OneRuns : {T C O : Type 0} → (T → TreeView) → (C → ScratchView) → (O → SinkView) → Result StackOp WordFault → Devices T C O → Devices T C O → Why → Type 0
OneRuns tree scratch out job d e why = RunsOne job (world (tree d.tree) (scratch d.scratch) (out d.out)) (world (tree e.tree) (scratch e.scratch) (out e.out)) d e why

-- how a run ends behind commands that were carried out: the end of the stack is its own
abbrev pub behind_some : Why → Why
behind_some (StackEnd n) = Done
behind_some why = why

-- behind a command that was carried out, up to so many: the first that isn't ends the run, and each other one goes on from where it stands
unfoldable pub GoesOn : {D : Type 0} → (D → D → Why → Type 0) → ℕ → D → D → Why → Type 0
GoesOn R zero d e why = (why ≡ Done) × (e ≡ d)
GoesOn {D = D} R (suc n) d e why = ((last : Why) × (last ≢ Done) × R d e last × (why ≡ behind_some last)) ⊎ ((m : D) × R d m Done × GoesOn R n m e why)

-- the first command ends the run, or it is carried out and as many follow as a stack may have patches
abbrev pub ToEnd : {D : Type 0} → (D → D → Why → Type 0) → D → D → Why → Type 0
ToEnd {D = D} R d e why = ((why ≢ Done) × R d e why) ⊎ ((m : D) × R d m Done × GoesOn R 9999 m e why)

-- one command, or all to the end
abbrev pub Runs : {D : Type 0} → Bool → (D → D → Why → Type 0) → D → D → Why → Type 0
Runs false R d e why = R d e why
Runs true R d e why = ToEnd R d e why
