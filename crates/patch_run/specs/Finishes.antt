-- The part of a run behind the reading of the patch text.
use Rattle.std.specs.Prelude.{◌≡◌, ◌≢◌, ◌⊎◌, ℕ, ◌-◌, ◌^◌, ◌<◌, ◌≤◌, List, length, map, All, true, is_some, Some, None, Result, Err, OnOk, IfOk, IfErr}
use Rattle.std.specs.List.{flat_map}
use Rattle.std.specs.Option.{ForSome}
use Rattle.outside.specs.Faults.{HasRisen}
use Rattle.outside.specs.Files.{Files}
use Rattle.outside.specs.TreeView.{TreeView, Passes}
use Rattle.outside.specs.TreeView as tree
use Rattle.outside.specs.Calls.{IsUntouched}
use Rattle.outside.specs.SinkView.{SinkView, SinkPasses}
use Rattle.outside.specs.SinkView as sink
use Rattle.outside.specs.ScratchView.{ScratchView, ScratchPasses}
use Rattle.outside.specs.Quiet.{LeavesPrefix}
use Rattle.hunk_core.specs.declared.Verdict.{Verdict}
use Rattle.patch_options.specs.PlainJob.{PlainOptions, IsLawful}
use Rattle.patch_set.specs.declared.set.Row.{Row}
use Rattle.patch_set.specs.SetView.{SetView, HasVerdicts}
use Rattle.apply_task.specs.Named.{IsNamed}
use Rattle.patch_run.specs.Applied.{Receipt}
use Rattle.patch_run.specs.Run.{Run, items_of, set_run}
use Rattle.patch_run.specs.Doing.{QuietAfter, IsFar, IsCutOff, IsCutAt}
use Rattle.apply_task.specs.Making.{TidyAfter}
use Rattle.apply_task.specs.declared.fault.RunFault.{RunFault}
use Rattle.apply_task.specs.declared.fault.RunFault.TheVariants.{Tree, Write, Scratch, LongLine, FileTooLong, Disagree, Memory}
use Rattle.patch_run.specs.Scratches.{has_scratch, is_paged, scratch_behind_all}

-- a set whose targets can be counted, and have names that are apart from those of temporaries
pub record HasNames (v : SetView) : Type 0 where
  pub few : All (λ p. length p.targets.items < 2 ^ 32) v.patches
  pub targets : All (λ p. All IsNamed p.targets.items) v.patches
  pub output : 0 < length v.patches → ForSome v.output IsNamed

-- a set that can be carried out with these options
pub record CanApply (o : PlainOptions) (v : SetView) : Type 0 where
  pub lawful : IsLawful o
  pub names : HasNames v
  pub verdicts : HasVerdicts v

-- the tree tells these files, and the scratch its bytes where the plan has one
pub record IsToldTo (o : PlainOptions) (u : TreeView) (a : ScratchView) (f : Files) : Type 0 where
  pub files : u.told ≡ Some f
  pub scratch : has_scratch o.plan ≡ true → is_some a.told ≡ true

-- what a fault says of the devices before and after
abbrev pub HasPlanCause : RunFault → PlainOptions → TreeView → TreeView → ScratchView → ScratchView → SinkView → SinkView → Type 0
HasPlanCause Tree o u w a b c d = tree.Rises u w
HasPlanCause Write o u w a b c d = sink.Rises c d
HasPlanCause Scratch o u w a b c d = HasRisen a.faults b.faults
HasPlanCause (LongLine line length) o u w a b c d = o.buffer - 4 < length
HasPlanCause (FileTooLong length) o u w a b c d = 2 ^ 40 ≤ length
HasPlanCause (Disagree want got) o u w a b c d = (want ≢ got) × ((f : Files) → IsToldTo o u a f → ⊥)
HasPlanCause Memory o u w a b c d = Unit {0}

-- a plan that keeps every file in the scratch wants memory for its pages alone, before the first change
pub record IsNotBegun (u w : TreeView) (a b : ScratchView) (c d : SinkView) : Type 0 where
  pub tree : IsUntouched u w
  pub scratch : b ≡ a
  pub out : d ≡ c

abbrev pub receipt_of : SetView → Run → Receipt
receipt_of v r = record { is_bad = r.is_bad; done = length v.patches; effects = length r.effects }

-- the verdicts of all hunks, file patch by file patch
abbrev pub verdicts_of : Run → List Verdict
verdicts_of r = flat_map (λ s. s.verdicts) r.stories

-- where all is told, a run that came to its end leaves these verdicts
abbrev pub LeavesVerdicts : PlainOptions → SetView → TreeView → ScratchView → List Verdict → Receipt → Type 0
LeavesVerdicts o v u a verdicts given = (f : Files) → IsToldTo o u a f → verdicts ≡ verdicts_of (set_run o v f)

-- and these rows
abbrev pub LeavesRows : PlainOptions → SetView → TreeView → ScratchView → List Row → Receipt → Type 0
LeavesRows o v u a rows given = (f : Files) → IsToldTo o u a f → rows ≡ map (λ s. s.row) (set_run o v f).stories

-- a set is carried out with the plan that the options name, on a quiet tree
pub record Finishes (o : PlainOptions) (v : SetView) (u w : TreeView) (a b : ScratchView) (c d : SinkView) (result : Result Receipt RunFault) : Type 0 where
  pub tree : Passes u w
  pub scratch : ScratchPasses a b
  pub sink : SinkPasses c d
  pub cause : IfErr result (λ e. HasPlanCause e o u w a b c d)
  pub quiet : QuietAfter result w
  pub starved : result ≡ Err Memory → is_paged o.plan ≡ true → IsNotBegun u w a b c d
  pub whole : OnOk result ((f : Files) → IsToldTo o u a f → IsFar u w c d (set_run o v f))
  pub going : OnOk result ((f : Files) → IsToldTo o u a f → (set_run o v f).stop ≡ None)
  pub receipt : IfOk result (λ given. (f : Files) → IsToldTo o u a f → given ≡ receipt_of v (set_run o v f))
  pub holds : OnOk result ((f : Files) (before : List ℕ) → IsToldTo o u a f → a.told ≡ Some before → b.told ≡ Some (scratch_behind_all o (set_run o v f).taken before))
  pub cut : IfErr result (λ e. (f : Files) → IsToldTo o u a f → IsCutOff e u w c d (set_run o v f))
  -- a fault cuts the run off at one file patch, of which nothing is done before all of it is said; or it comes before the first
  pub cut_at : IfErr result (λ e. (f : Files) → IsToldTo o u a f → IsNotBegun u w a b c d ⊎ IsCutAt e w c d o v.output (items_of v) f)
  pub moments : (f : Files) → IsToldTo o u a f → LeavesPrefix u w (set_run o v f).effects
  -- after an answer without a failed device no temporary that the run started is left
  pub tidy : TidyAfter result u w
  -- a dry run starts none, whatever is told
  pub dry : o.dry_run ≡ true → IsUntouched u w
