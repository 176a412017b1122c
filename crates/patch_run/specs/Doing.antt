-- How far a file patch, and a run, has come.
use Rattle.std.specs.Prelude.{◌≡◌, ◌≢◌, ◌⊎◌, ℕ, ◌≤◌, List, [], ◌∷◌, ◌++◌, length, take, map, replicate, Bool, true, false, Option, None, Some, Result, Ok, Err, OnOk, IfOk, IfErr}
use Rattle.std.specs.List.{fold, flat_map}
use Rattle.outside.specs.Files.{Files, SameLasting}
use Rattle.outside.specs.TreeView.{TreeView, Passes, MayLeave}
use Rattle.outside.specs.SinkView.{SinkView, SinkPasses, Receives, ReceivesPart}
use Rattle.outside.specs.Quiet.{IsQuiet, Effect, HasMade, TellsPrefix, LeavesPrefix}
use Rattle.hunk_core.specs.declared.Verdict.{Verdict}
use Rattle.line_store.specs.Store.{Seen}
use Rattle.line_store.specs.Taking.{KeepsPlan}
use Rattle.line_store.specs.declared.fault.OpenFault.{OpenFault}
use Rattle.line_store.specs.declared.fault.OpenFault.TheVariants as open_fault
use Rattle.apply_task.specs.declared.fault.RunFault.{RunFault}
use Rattle.apply_task.specs.declared.fault.RunFault.TheVariants.{Tree, Write, Scratch, LongLine, FileTooLong, Disagree, Memory}
use Rattle.std.specs.FinMap.{get}
use Rattle.outside.specs.TreeView as tree
use Rattle.outside.specs.SinkView as sink
use Rattle.line_store.specs.Store as store
use Rattle.outside.specs.Quiet.{Holds, after_all}
use Rattle.hunk_core.specs.declared.Side.{Side}
use Rattle.hunk_apply.specs.declared.Session.{Session}
use Rattle.read_file_patch.specs.declared.derived.Target.{Target}
use Rattle.patch_run.specs.declared.one_patch.Done.{Done}
use Rattle.apply_task.specs.declared.placed.Made.{Made}
use Rattle.apply_task.specs.Outputs.{IsSession}
use Rattle.apply_task.specs.Making.{IsGone, IsPart, TidyAfter, UnlessFailed}
use Rattle.patch_run.specs.OnePatch.{Item, PlainContext, Tried, Story, Ending, ended, stopped, effects_of, tried_said, wrote, ending}
use Rattle.hunk_core.specs.declared.Verdict.TheVariants.{Ignored, Nowhere}
use Rattle.apply_task.specs.Outputs.{verdicts_over}
use Rattle.patch_options.specs.PlainJob.{PlainOptions}
use Rattle.read_file_patch.specs.declared.FilePatch.{FilePatch}
use Rattle.read_file_patch.specs.PlainPatch.{patch_of, row_count}
use Rattle.patch_set.specs.declared.set.Row.{Row}
use Rattle.patch_set.specs.SetView.{SetView}
use Rattle.patch_run.specs.Applied.{Receipt}
use Rattle.apply_outcome.specs.Ready.{rows_in}
use Rattle.patch_run.specs.Refused.{saves_refused}
use Rattle.patch_run.specs.Run.{Run, files_after, turn_of, run_of}
use Rattle.apply_start.specs.Devices.{Told, HasRunCause, scratch_with}

-- what stays of the three devices over any part of a run, and what a fault says of them
pub record Stays {R : Type 0} (u w : TreeView) (a b : Seen) (c d : SinkView) (result : Result R RunFault) : Type 0 where
  pub tree : Passes u w
  pub plan : KeepsPlan a b
  pub sink : SinkPasses c d
  pub cause : IfErr result (λ e. HasRunCause e u w a b c d)

-- a first part of the effects and of the text
pub record IsPartOf (u w : TreeView) (c d : SinkView) (es : List Effect) (text : List ℕ) : Type 0 where
  pub tells : TellsPrefix u w es
  pub leaves : LeavesPrefix u w es
  pub said : ReceivesPart c d text

-- effects made whole and a text said whole; reads give these files now
pub record IsWholeOf (u w : TreeView) (c d : SinkView) (es : List Effect) (text : List ℕ) (files : Files) : Type 0 where
  pub made : HasMade u w es
  pub said : Receives c d text
  pub now : w.told ≡ Some files

-- ---- one file patch

abbrev pub effects_in : Ending → List Effect
effects_in (ended s) = s.effects
effects_in (stopped said fault) = []

abbrev pub said_of : Ending → List ℕ
said_of (ended s) = s.said
said_of (stopped said fault) = said

-- what was done is what the story says
pub record IsToldBy (s : Story) (done : Done) (vs : List Verdict) : Type 0 where
  pub row : done.row ≡ s.row
  pub bad : done.is_bad ≡ s.is_bad
  pub effects : done.effects ≡ length s.effects
  pub verdicts : vs ≡ s.verdicts

-- what was done is this story, from those files on
pub record IsDone (u w : TreeView) (c d : SinkView) (done : Done) (verdicts : List Verdict) (f : Files) (s : Story) : Type 0 where
  pub told : IsToldBy s done verdicts
  pub whole : IsWholeOf u w c d s.effects s.said (files_after s f)

-- the file patch came to its end
pub record IsEnded (u w : TreeView) (b : Seen) (c d : SinkView) (behind : Option (List ℕ) → Option (List ℕ)) (done : Done) (verdicts : List Verdict) (f : Files) (e : Ending) : Type 0 where
  pub story : Story
  pub is : e ≡ ended story
  pub does : IsDone u w c d done verdicts f story
  pub scratch : b.scratch ≡ behind story.taken

-- its file isn't taken, and all that is said of it was said; or it was broken off
abbrev pub IsStopped : TreeView → TreeView → SinkView → SinkView → Files → Ending → OpenFault → Type 0
IsStopped u w c d f e fault = (e ≡ stopped (said_of e) fault) × IsWholeOf u w c d [] (said_of e) f

abbrev pub IsBroken : RunFault → TreeView → TreeView → SinkView → SinkView → Files → Ending → Type 0
IsBroken Tree u w c d f e = IsPartOf u w c d (effects_in e) (said_of e)
IsBroken Write u w c d f e = IsPartOf u w c d (effects_in e) (said_of e)
IsBroken Scratch u w c d f e = IsPartOf u w c d (effects_in e) (said_of e)
IsBroken (LongLine line length) u w c d f e = IsStopped u w c d f e (open_fault.LongLine line length)
IsBroken (FileTooLong length) u w c d f e = IsStopped u w c d f e (open_fault.FileTooLong length)
IsBroken (Disagree want got) u w c d f e = IsPartOf u w c d (effects_in e) (said_of e)
IsBroken Memory u w c d f e = IsPartOf u w c d (effects_in e) (said_of e)

-- a fault before any effect, or one of the tree once all was said
abbrev pub IsOrdered : RunFault → TreeView → TreeView → SinkView → SinkView → List ℕ → Type 0
IsOrdered e u w c d text = IsPart u w [] ⊎ ((e ≡ Tree) × Receives c d text)

-- after an end, and after a file that isn't taken, the tree is quiet
abbrev pub QuietAfter : {R : Type 0} → Result R RunFault → TreeView → Type 0
QuietAfter (Ok x) w = IsQuiet w
QuietAfter (Err Tree) w = Unit {0}
QuietAfter (Err Write) w = Unit {0}
QuietAfter (Err Scratch) w = Unit {0}
QuietAfter (Err (LongLine line length)) w = IsQuiet w
QuietAfter (Err (FileTooLong length)) w = IsQuiet w
QuietAfter (Err (Disagree want got)) w = Unit {0}
QuietAfter (Err Memory) w = Unit {0}

-- one file patch
pub record Does (u w : TreeView) (a b : Seen) (c d : SinkView) (scratch_after : ℕ → List ℕ → Option (List ℕ) → Option (List ℕ)) (result : Result Done RunFault) (verdicts : List Verdict) (ending : Files → Ending) : Type 0 where
  pub stays : Stays u w a b c d result
  pub quiet : QuietAfter result w
  pub tidy : TidyAfter result u w
  pub whole : IfOk result (λ done. (f : Files) → Told u a f → IsEnded u w b c d (λ taken. scratch_with scratch_after a.size taken a.scratch) done verdicts f (ending f))
  pub broken : IfErr result (λ e. (f : Files) → Told u a f → IsBroken e u w c d f (ending f))
  -- nothing is done before all is said
  pub order : IfErr result (λ e. (f : Files) → Told u a f → IsOrdered e u w c d (said_of (ending f)))
  -- where it ends early though no device has failed, reads give what they gave, temporary names too
  pub kept : IfErr result (λ e. (f : Files) → Told u a f → UnlessFailed e (w.told ≡ Some f))

-- ---- the end of a file patch whose hunks were tried

-- a fault that no definition has
abbrev pub IsDeviceFault : RunFault → Type 0
IsDeviceFault Tree = Unit {0}
IsDeviceFault Write = Unit {0}
IsDeviceFault Scratch = Unit {0}
IsDeviceFault (LongLine line length) = ⊥
IsDeviceFault (FileTooLong length) = ⊥
IsDeviceFault (Disagree want got) = Unit {0}
IsDeviceFault Memory = ⊥

-- a fault of the tree or the sink alone
abbrev pub HasEndCause : RunFault → TreeView → TreeView → SinkView → SinkView → Type 0
HasEndCause Tree u w c d = tree.Rises u w
HasEndCause Write u w c d = sink.Rises c d
HasEndCause Scratch u w c d = ⊥
HasEndCause (LongLine line length) u w c d = ⊥
HasEndCause (FileTooLong length) u w c d = ⊥
HasEndCause (Disagree want got) u w c d = ⊥
HasEndCause Memory u w c d = ⊥

-- what came of the hunks is told by these counts and verdicts, and the temporary holds the output, but in a dry run
pub record IsOutcome (dry : Bool) (u : TreeView) (session : Session) (temp : List ℕ) (from : Side) (vs : List Verdict) (first : Option Bool) (x : Tried) : Type 0 where
  pub side : x.side ≡ from
  pub verdicts : x.verdicts ≡ vs
  pub counts : IsSession session x.verdicts x.text
  pub end : x.end ≡ first
  pub holds : dry ≡ false → Holds u temp x.output

-- all is said, the effects are made whole, and what was done is what they are; the temporary is gone, but in a dry run
pub record IsMadeWhole (t : PlainContext) (f : Files) (source target : Target) (x : Tried) (done : Made) (u w : TreeView) (c d : SinkView) : Type 0 where
  pub made : HasMade u w (effects_of t f source target x)
  pub said : Receives c d (tried_said t target x)
  pub exact : (g : Files) → w.told ≡ Some g → (q : List ℕ) → q ≢ target.temp → get g q ≡ get (after_all (effects_of t f source target x) f) q
  pub gone : t.options.dry_run ≡ false → IsGone w target.temp
  pub same : t.options.dry_run ≡ true → w.told ≡ Some f
  pub wrote : done.wrote ≡ wrote t f target x
  pub effects : done.effects ≡ length (effects_of t f source target x)

-- ---- a run

-- the run came so far: its effects are made whole, its text is said, and reads give its files
abbrev pub IsFar : TreeView → TreeView → SinkView → SinkView → Run → Type 0
IsFar u w c d r = IsWholeOf u w c d r.effects r.said r.files

-- the run ends so
abbrev pub IsHalted : TreeView → TreeView → SinkView → SinkView → Run → OpenFault → Type 0
IsHalted u w c d r fault = (r.stop ≡ Some fault) × IsFar u w c d r

abbrev pub IsCutOff : RunFault → TreeView → TreeView → SinkView → SinkView → Run → Type 0
IsCutOff Tree u w c d r = IsPartOf u w c d r.effects r.said
IsCutOff Write u w c d r = IsPartOf u w c d r.effects r.said
IsCutOff Scratch u w c d r = IsPartOf u w c d r.effects r.said
IsCutOff (LongLine line length) u w c d r = IsHalted u w c d r (open_fault.LongLine line length)
IsCutOff (FileTooLong length) u w c d r = IsHalted u w c d r (open_fault.FileTooLong length)
IsCutOff (Disagree want got) u w c d r = IsPartOf u w c d r.effects r.said
IsCutOff Memory u w c d r = IsPartOf u w c d r.effects r.said

-- reads, and a crash now, give these files after some of the effects, from the front
pub record IsAmid (w : TreeView) (files : Files) (es : List Effect) : Type 0 where
  pub now : (g : Files) → w.told ≡ Some g → (k : ℕ) × (k ≤ length es) × SameLasting (after_all (take k es) files) g
  pub left : (c : Files) → MayLeave w c → (k : ℕ) × (k ≤ length es) × SameLasting (after_all (take k es) files) c

-- it holds what it held, this text, and a first part of the piece, or tells nothing any more
abbrev pub ReceivesBehind : SinkView → SinkView → List ℕ → List ℕ → Type 0
ReceivesBehind c d text piece = (b : List ℕ) → c.told ≡ Some b → (d.told ≡ None) ⊎ ((n : ℕ) × (d.told ≡ Some ((b ++ text) ++ take n piece)))

-- behind a run, a file patch that ends so was cut off: nothing of it is done, or all of it was said before a call of the tree failed
pub record IsCutIn (e : RunFault) (w : TreeView) (c d : SinkView) (r : Run) (ending : Ending) : Type 0 where
  pub done : IsAmid w r.files (effects_in ending)
  pub said : ReceivesBehind c d r.said (said_of ending)
  pub order : IsAmid w r.files [] ⊎ ((e ≡ Tree) × Receives c d (r.said ++ said_of ending))
  -- unless a device has failed, reads give the files of that run, temporary names too
  pub exact : UnlessFailed e (w.told ≡ Some r.files)

-- a run over these was cut off at one of them, those in front of it having come to their ends
pub record IsCutAt (e : RunFault) (w : TreeView) (c d : SinkView) (o : PlainOptions) (output : Option Target) (items : List Item) (f : Files) : Type 0 where
  pub front : List Item
  pub item : Item
  pub behind : List Item
  pub all : items ≡ front ++ item ∷ behind
  pub going : (run_of o output front f).stop ≡ None
  pub cut : IsCutIn e w c d (run_of o output front f) (ending (turn_of o output (run_of o output front f) item) (run_of o output front f).files)

-- what the scratch holds once these files were taken, one after another
abbrev pub scratch_behind : (ℕ → List ℕ → Option (List ℕ) → Option (List ℕ)) → ℕ → Option (List ℕ) → List (List ℕ) → Option (List ℕ)
scratch_behind scratch_after size before taken = fold (λ scratch bytes. scratch_after size bytes scratch) before taken

-- a whole run: its effects, text and files on `Ok` and where a file isn't taken; a first part of them after any other fault
pub record Runs {R : Type 0} (u w : TreeView) (a b : Seen) (c d : SinkView) (scratch_after : ℕ → List ℕ → Option (List ℕ) → Option (List ℕ)) (result : Result R RunFault) (run : Files → Run) : Type 0 where
  pub stays : Stays u w a b c d result
  pub quiet : QuietAfter result w
  -- after an answer without a failed device no temporary that the run started is left, whatever else is told
  pub tidy : TidyAfter result u w
  pub whole : OnOk result ((f : Files) → Told u a f → IsFar u w c d (run f))
  pub going : OnOk result ((f : Files) → Told u a f → (run f).stop ≡ None)
  pub scratch : OnOk result ((f : Files) → Told u a f → b.scratch ≡ scratch_behind scratch_after a.size a.scratch (run f).taken)
  pub cut : IfErr result (λ e. (f : Files) → Told u a f → IsCutOff e u w c d (run f))
  -- a crash at any moment since the run began leaves a first part of its effects
  pub moments : (f : Files) → Told u a f → LeavesPrefix u w (run f).effects

-- neither the tree, nor the scratch of the plan, nor the sink has failed
pub record NoneFailed (u w : TreeView) (a b : Seen) (c d : SinkView) : Type 0 where
  pub tree : tree.Rises u w → ⊥
  pub scratch : store.Rises a b → ⊥
  pub sink : sink.Rises c d → ⊥

-- the answer is how the run ends, or a want of memory that the plan can have
abbrev pub EndsSo : {R : Type 0} → Result R RunFault → Seen → Option OpenFault → Type 0
EndsSo (Ok x) a stop = stop ≡ None
EndsSo (Err Tree) a stop = ⊥
EndsSo (Err Write) a stop = ⊥
EndsSo (Err Scratch) a stop = ⊥
EndsSo (Err (LongLine line length)) a stop = stop ≡ Some (open_fault.LongLine line length)
EndsSo (Err (FileTooLong length)) a stop = stop ≡ Some (open_fault.FileTooLong length)
EndsSo (Err (Disagree want got)) a stop = ⊥
EndsSo (Err Memory) a stop = a.needs_memory ≡ true

-- the verdicts and the rows that a run leaves, and its receipt
pub record IsReceipt (r : Run) (given : Receipt) (count : ℕ) (vs : List Verdict) (rs : List Row) : Type 0 where
  pub receipt : given ≡ record { is_bad = r.is_bad; done = count; effects = length r.effects }
  pub verdicts : vs ≡ flat_map (λ s. s.verdicts) r.stories
  pub rows : rs ≡ map (λ s. s.row) r.stories

-- what is read of a set stays, and it holds as many verdicts
pub record StaysSet (old new : SetView) : Type 0 where
  pub text : new.text ≡ old.text
  pub patches : new.patches ≡ old.patches
  pub output : new.output ≡ old.output
  pub skipped : new.skipped ≡ old.skipped

-- the tree doesn't tell its files
abbrev pub IsUntold : TreeView → Type 0
IsUntold u = (f : Files) → u.told ≡ Some f → ⊥

-- a file patch was refused for what is in its way: it is bad, its target isn't written, and there is one effect at most, its reject file where it has one
pub record IsRefused (t : PlainContext) (done : Done) : Type 0 where
  pub bad : done.is_bad ≡ true
  pub wrote : done.row.wrote ≡ false
  pub few : done.effects ≤ 1
  pub may : done.effects ≡ 1 → saves_refused t ≡ true

-- the verdicts of a file patch are these, or all its hunks are ignored; where the tree doesn't tell its files, it may be refused too
abbrev pub ArePlaced : Type 0 → ℕ → List Verdict → List Verdict → Type 0
ArePlaced Untold count verdicts placed = (verdicts ≡ replicate count Ignored) ⊎ ((verdicts ≡ placed) ⊎ (Untold × (verdicts ≡ replicate count Nowhere)))

-- they are those of these lines
abbrev pub IsPlacedOn : Type 0 → PlainOptions → List ℕ → FilePatch → List Verdict → Row → List (List ℕ) → Type 0
IsPlacedOn Untold o text p verdicts r lines = ArePlaced Untold (row_count p.change) (rows_in verdicts p) (verdicts_over o r.side (patch_of text p) lines)

-- so are those of the last file patch
abbrev pub IsPlacedLast : Type 0 → PlainOptions → SetView → List Verdict → List (List ℕ) → Type 0
IsPlacedLast Untold o v verdicts lines = (p : FilePatch) (r : Row) (front : List FilePatch) (rows : List Row) → v.patches ≡ front ++ p ∷ [] → v.rows ≡ rows ++ r ∷ [] → IsPlacedOn Untold o v.text p verdicts r lines
