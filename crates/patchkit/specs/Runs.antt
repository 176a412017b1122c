-- What a run of the program promises, for each kind of tools. A further kind is one record more.
use Rattle.std.specs.Prelude.{◌≡◌, ◌⊎◌, ℕ, List, false, Option, None, Err}
use Rattle.outside.specs.Files.{Files}
use Rattle.outside.specs.FinderView.{FinderView}
use Rattle.outside.specs.ScratchView.{ScratchView}
use Rattle.outside.specs.SinkView.{SinkView}
use Rattle.outside.specs.SourceView.{SourceView}
use Rattle.outside.specs.TreeView.{TreeView}
use Rattle.patch_options.specs.Words.{job_of}
use Rattle.patch_options.specs.declared.options.WordFault.{WordFault}
use Rattle.patch_run.specs.Applied.{Receipt}
use Rattle.cli_run_answers.specs.declared.why.Why.{Why}
use Rattle.cli_run_answers.specs.declared.why.Why.TheVariants.{Memory}
use Rattle.cli_run_answers.specs.Answers.{of_words}
use Rattle.cli_run_answers.specs.Moments.{LeavesOldOrNew}
use Rattle.cli_run_answers.specs.Worlds as worlds
use Rattle.patch_run.specs.declared.exit.Exit.{Exit}
use Rattle.patch_cli.specs.Answers.{IsEarly, sort_of}
use Rattle.patch_cli.specs.Command.{command}
use Rattle.patch_cli.specs.Worlds.{World, TellsFiles, TellsLeft, reads_source, uses_scratch}
use Rattle.patch_cli.specs.Worlds as patch_worlds
use Rattle.patch_cli.specs.Carries.{Carries, NoneFailed, IsComplete}
use Rattle.cli_filter.specs.InTurn.{CallRuns, InTurn}
use Rattle.cli_filter.specs.InTurn as turns
use Rattle.cli_tool_words.specs.Calls.{calls_of}
use Rattle.cli_gen.specs.Jobs as gen_jobs
use Rattle.cli_gen.specs.Carries as gen
use Rattle.patch_filters.specs.RegexView.{regex_view}
use Rattle.patch_filters.specs.declared.regex_finder.RegexFinder.{RegexFinder}
use Rattle.cli_program_answers.specs.Ends as program
use Rattle.cli_stack.specs.Jobs as stack_jobs
use Rattle.cli_stack.specs.InTurn as stack
use Rattle.patchkit.specs.Kinds.{kind_of}
use Rattle.patchkit.specs.declared.kind.ToolKind.TheVariants.{Patch, Filter, Gen, Stack}

-- the devices themselves at one moment, but for standard error
pub record Devices (T C F I O : Type 0) : Type 0 where
  pub tree : T
  pub scratch : C
  pub finder : F
  pub input : I
  pub out : O

abbrev pub devices : {T C F I O : Type 0} → T → C → F → I → O → Devices T C F I O
devices tree scratch finder input out = record { tree = tree; scratch = scratch; finder = finder; input = input; out = out }

-- what `patch_cli` promises of `patch`, and of words that name no tool; the finder isn't asked
pub record RunsPatch {T C F I O : Type 0} (words : List (List ℕ)) (u w : World) (d e : Devices T C F I O) (why : Why) (applied : Option Receipt) : Type 0 where
  pub carries : Carries words u w why applied
  -- where all is told and no device failed, only want of memory stands between the command and its answer
  pub complete : (f : Files) (left : List ℕ) → TellsFiles (job_of words) u f → TellsLeft (job_of words) u left → NoneFailed u w → IsComplete why applied f u w (command words f left)
  -- wherever the run is stopped, each file holds its old bytes or its completed new ones
  pub names : (f : Files) (left : List ℕ) → TellsFiles (job_of words) u f → TellsLeft (job_of words) u left → LeavesOldOrNew u.tree w.tree f (command words f left).effects
  -- words that give no job are answered before any device is called, and refusals before the output or the scratch is
  pub words_first : (fault : WordFault) → job_of words ≡ Err fault → (why ≡ of_words fault) ⊎ (why ≡ Memory)
  pub still : (fault : WordFault) → job_of words ≡ Err fault → e.tree ≡ d.tree
  pub early_out : IsEarly (sort_of why) → e.out ≡ d.out
  pub early_scratch : IsEarly (sort_of why) → e.scratch ≡ d.scratch
  pub scratch : uses_scratch (job_of words) ≡ false → e.scratch ≡ d.scratch
  pub input : reads_source (job_of words) ≡ false → e.input ≡ d.input
  pub finder : e.finder ≡ d.finder

-- what `cli_filter` promises of the filters, call by call; the scratch isn't touched, and there is no receipt
pub record RunsFilter {T C F I O : Type 0} (tree : T → TreeView) (finder : F → FinderView) (input : I → SourceView) (out : O → SinkView) (words : List (List ℕ)) (d e : Devices T C F I O) (why : Why) (applied : Option Receipt) : Type 0 where
  pub calls : InTurn (CallRuns tree finder input out) (calls_of words) (turns.devices d.tree d.finder d.input d.out) (turns.devices e.tree e.finder e.input e.out) why
  pub scratch : e.scratch ≡ d.scratch
  pub no_receipt : applied ≡ None

-- what `cli_gen` promises of `patchgen`; standard input isn't read, and the finder isn't asked
pub record RunsGen {T C F I O : Type 0} (words : List (List ℕ)) (u w : worlds.World) (d e : Devices T C F I O) (why : Why) (applied : Option Receipt) : Type 0 where
  pub carries : gen.Carries (gen_jobs.job_of words) u w why applied
  -- words that give no job are answered before any device is called
  pub words_first : (fault : WordFault) → gen_jobs.job_of words ≡ Err fault → (why ≡ of_words fault) ⊎ (why ≡ Memory)
  pub still : (fault : WordFault) → gen_jobs.job_of words ≡ Err fault → e.tree ≡ d.tree
  pub silent : (fault : WordFault) → gen_jobs.job_of words ≡ Err fault → e.out ≡ d.out
  pub scratch : gen_jobs.uses_scratch (gen_jobs.job_of words) ≡ false → e.scratch ≡ d.scratch
  pub input : e.input ≡ d.input
  pub finder : e.finder ≡ d.finder

-- what `cli_stack` promises of `patchstack`, of one command or of each of those that run in turn; standard input isn't read, the finder isn't
-- asked, and there is no receipt
pub record RunsStack {T C F I O : Type 0} (tree : T → TreeView) (scratch : C → ScratchView) (out : O → SinkView) (words : List (List ℕ)) (d e : Devices T C F I O) (why : Why) (applied : Option Receipt) : Type 0 where
  pub runs : stack.Runs (stack_jobs.all_of words) (stack.OneRuns tree scratch out (stack_jobs.job_of words)) (stack.devices d.tree d.scratch d.out) (stack.devices e.tree e.scratch e.out) why
  pub input : e.input ≡ d.input
  pub finder : e.finder ≡ d.finder
  pub no_receipt : applied ≡ None

-- the same, of the devices at entry and at exit, by what they are seen as, and of how the run ends
abbrev pub PatchRuns : {T C F I O : Type 0} → (T → TreeView) → (C → ScratchView) → (I → SourceView) → (O → SinkView) → List (List ℕ) → Devices T C F I O → Devices T C F I O → Exit → Type 0
PatchRuns tree scratch input out words d e exit = RunsPatch words (patch_worlds.world (tree d.tree) (scratch d.scratch) (input d.input) (out d.out)) (patch_worlds.world (tree e.tree) (scratch e.scratch) (input e.input) (out e.out)) d e exit.why exit.applied

abbrev pub FilterRuns : {T C F I O : Type 0} → (T → TreeView) → (F → FinderView) → (I → SourceView) → (O → SinkView) → List (List ℕ) → Devices T C F I O → Devices T C F I O → Exit → Type 0
FilterRuns tree finder input out words d e exit = RunsFilter tree finder input out words d e exit.why exit.applied

abbrev pub GenRuns : {T C F I O : Type 0} → (T → TreeView) → (C → ScratchView) → (O → SinkView) → List (List ℕ) → Devices T C F I O → Devices T C F I O → Exit → Type 0
GenRuns tree scratch out words d e exit = RunsGen words (worlds.world (tree d.tree) (scratch d.scratch) (out d.out)) (worlds.world (tree e.tree) (scratch e.scratch) (out e.out)) d e exit.why exit.applied

abbrev pub StackRuns : {T C F I O : Type 0} → (T → TreeView) → (C → ScratchView) → (O → SinkView) → List (List ℕ) → Devices T C F I O → Devices T C F I O → Exit → Type 0
StackRuns tree scratch out words d e exit = RunsStack tree scratch out words d e exit.why exit.applied

-- the same of the words of every tool
pub record AnyRuns {T C F I O : Type 0} (tree : T → TreeView) (scratch : C → ScratchView) (finder : F → FinderView) (input : I → SourceView) (out : O → SinkView) (words : List (List ℕ)) (d e : Devices T C F I O) (exit : Exit) : Type 0 where
  pub patch : kind_of words ≡ Patch → PatchRuns tree scratch input out words d e exit
  pub filter : kind_of words ≡ Filter → FilterRuns tree finder input out words d e exit
  pub making : kind_of words ≡ Gen → GenRuns tree scratch out words d e exit
  pub stack : kind_of words ≡ Stack → StackRuns tree scratch out words d e exit

-- what the program does over its devices, with a finder of its own, and how that ends
pub record ToolsRun {T C I O : Type 0} (tree : T → TreeView) (scratch : C → ScratchView) (input : I → SourceView) (out : O → SinkView) (words : List (List ℕ)) (d e : program.Devices T C I O) (why : Why) : Type 0 where
  pub before : RegexFinder
  pub behind : RegexFinder
  pub exit : Exit
  pub runs : AnyRuns tree scratch regex_view input out words (devices d.tree d.scratch before d.input d.out) (devices e.tree e.scratch behind e.input e.out) exit
  pub is : exit.why ≡ why
