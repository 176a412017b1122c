-- A run of a filter over several FILEs: its calls one behind the other, until one doesn't come to its end (manual pages of patchutils).
use Rattle.std.specs.Prelude.{◌≡◌, ◌≢◌, ◌⊎◌, ℕ, List, [], ◌∷◌, Err}
use Rattle.outside.specs.FinderView.{FinderView}
use Rattle.outside.specs.SinkView.{SinkView}
use Rattle.outside.specs.SourceView.{SourceView}
use Rattle.outside.specs.TreeView.{TreeView}
use Rattle.patch_options.specs.declared.options.WordFault.{WordFault}
use Rattle.cli_run_answers.specs.declared.why.Why.{Why}
use Rattle.cli_run_answers.specs.declared.why.Why.TheVariants.{Done, Memory}
use Rattle.cli_run_answers.specs.Answers.{of_words}
use Rattle.cli_filter.specs.Carries.{Carries}
use Rattle.cli_filter.specs.Command.{UnlessSearched}
use Rattle.cli_filter.specs.Jobs.{AsksFor, HasPattern, ReadsSource, job_of}
use Rattle.cli_filter.specs.Worlds.{World, world}

-- the devices themselves at one moment
pub record Devices (T F I O : Type 0) : Type 0 where
  pub tree : T
  pub finder : F
  pub source : I
  pub out : O

abbrev pub devices : {T F I O : Type 0} → T → F → I → O → Devices T F I O
devices tree finder source out = record { tree = tree; finder = finder; source = source; out = out }

-- what is promised of one call
pub record RunsCall {T F I O : Type 0} (words : List (List ℕ)) (u w : World) (d e : Devices T F I O) (why : Why) : Type 0 where
  pub carries : Carries (job_of words) u w why
  -- words that give no job are answered before any device is called
  pub words_first : (fault : WordFault) → job_of words ≡ Err fault → (why ≡ of_words fault) ⊎ (why ≡ Memory)
  pub still : (fault : WordFault) → job_of words ≡ Err fault → e.tree ≡ d.tree
  pub silent : (fault : WordFault) → job_of words ≡ Err fault → e.out ≡ d.out
  pub unread : (ReadsSource (job_of words) → ⊥) → e.source ≡ d.source
  -- the finder isn't asked where there is no pattern, or where the text is told to have no file patches to search
  pub unasked : UnlessSearched (job_of words) u (e.finder ≡ d.finder)
  pub no_pattern : (AsksFor (job_of words) HasPattern → ⊥) → e.finder ≡ d.finder

-- the same, of the devices at entry and at exit, by what they are seen as
abbrev pub CallRuns : {T F I O : Type 0} → (T → TreeView) → (F → FinderView) → (I → SourceView) → (O → SinkView) → List (List ℕ) → Devices T F I O → Devices T F I O → Why → Type 0
CallRuns tree finder source out words d e why = RunsCall words (world (tree d.tree) (finder d.finder) (source d.source) (out d.out)) (world (tree e.tree) (finder e.finder) (source e.source) (out e.out)) d e why

-- the calls run in turn: the first one ends the run, or it comes to its end and the others go on from where it stands
abbrev pub InTurn : {D : Type 0} → (List (List ℕ) → D → D → Why → Type 0) → List (List (List ℕ)) → D → D → Why → Type 0
InTurn R [] d e why = (why ≡ Done) × (e ≡ d)
InTurn {D = D} R (call ∷ calls) d e why = ((why ≢ Done) × R call d e why) ⊎ ((m : D) × R call d m Done × InTurn R calls m e why)
