-- What the reading of words and patch text gives: a set that is to be carried out, or an early end.
use Rattle.std.proofs.Common.{◌≡◌, ◌⊎◌, inl, inr, Bool, true, false, List, ℕ, length, Option, Some, None, Result, Ok, Err, refl, sym, ◌∙◌, ap, subst}
use Rattle.std.specs.Prelude.{IfOk, OnOk}
use Rattle.std.proofs.lemmas.Bool.{false≢true}
use Rattle.patch_options.specs.declared.options.BackupNumbers.{BackupNumbers}
use Rattle.std.proofs.lemmas.List.{length-map, length-replicate}
use Rattle.outside.specs.Files.{Files}
use Rattle.outside.specs.TreeView.{TreeView, Rises, Passes}
use Rattle.outside.specs.SourceView.{SourceView}
use Rattle.outside.specs.ScratchView.{ScratchView}
use Rattle.outside.specs.SinkView.{SinkView}
use Rattle.outside.proofs.Views.{rises_then}
use Rattle.hunk_core.specs.Reading.{Fault}
use Rattle.hunk_core.specs.declared.Verdict.TheVariants.{Untried}
use Rattle.read_file_patch.specs.PlainPatch.{PlainPatch, patch_of}
use Rattle.patch_options.specs.PlainJob.{PlainOptions, PlainJob, IsLawful}
use Rattle.patch_options.specs.PlainJob.PlainJob.{patch}
use Rattle.patch_options.specs.declared.options.Input.{Input}
use Rattle.patch_options.specs.declared.options.Input.TheVariants.{Standard, File}
use Rattle.patch_options.specs.declared.options.WordFault.{WordFault}
use Rattle.cli_run_answers.specs.Input as input
use Rattle.cli_run_answers.specs.declared.fault.InputFault.{InputFault}
use Rattle.read_patch_text.specs.Patches.{patches_of}
use Rattle.patch_set.specs.Asked.{ways_of}
use Rattle.read_clean_text.specs.Reading.{clean_of}
use Rattle.patch_set.specs.Refusals.{refusal}
use Rattle.patch_set.specs.SetView.{SetView, plain_patches, hunks_in, IsRead, IsFresh}
use Rattle.patch_run.specs.Run.{Run, set_run}
use Rattle.cli_run_answers.specs.declared.why.Why.{Why}
use Rattle.cli_run_answers.specs.declared.why.Why.TheVariants.{Done, Rejected, Usage, Malformed, Garbage, EdReverse, OutMany, Reserved, NoPatchFile, TooLong, LongLine, FileTooLong, BadPattern, NoContext, Unfit, BadState, StackEnd, StackName, ReadFault, WriteFault, TreeFault, ScratchFault, Disagree, Memory}
use Rattle.patch_run.specs.Outcome.{carried_out}
use Rattle.patch_run.proofs.Ready.{read_names}
use Rattle.apply_backup_numbers.specs.Numbering.{asks_numbers}
use Rattle.patch_cli.specs.Numbered.{IsMade, numbered_run}
use Rattle.patch_cli.specs.Damaged.{has_damaged}
use Rattle.patch_cli.proofs.Named.{names-made, long-made, damaged-made}
use Rattle.patch_cli.proofs.Numbered.{run-made}
use Rattle.patch_cli.specs.Returns.{strips_returns, first_said}
use Rattle.patch_cli.specs.Command.{Reads, bad_where, behind, on_patches, on_refusal, on_input, on_job}
use Rattle.patch_cli.specs.Worlds.{World, world, TellsFiles, TellsLeft, TellsInput, is_standard}
use Rattle.patch_run.specs.Finishes.{CanApply}
use Rattle.cli_run_answers.specs.Moments.{Opens}
use Rattle.patch_cli.specs.Opening.{IsAsked, EndsSo, StopsEarly}

-- ---- the input

told_input : (i : Input) (t : TreeView) (s : SourceView) (f : Files) (left : List ℕ) → t.told ≡ Some f → (is_standard i ≡ true → s.told ≡ Some left) → input.IsTold i t s f left
told_input Standard t s f left files rest = rest refl
told_input (File name) t s f left files rest = files

pub tells_input : (job : Result PlainJob WordFault) (u : World) (f : Files) (left : List ℕ) → TellsFiles job u f → TellsLeft job u left → TellsInput job u f left
tells_input (Ok (patch o)) u f left files rest = told_input o.input u.tree u.source f left files.files rest
tells_input (Err fault) u f left files rest = tt

-- ---- a set that is read

-- a text that isn't refused is carried out as the set that is read from it
pub carried-match : (o : PlainOptions) (given : List ℕ) (before v : SetView) → IsRead o given before → (f : Files) → IsMade (asks_numbers o) o.numbers (Some f) before v → (left : List ℕ)
    → (reads : Reads o f left before.text (plain_patches before)) → on_job (Ok (patch o)) f left ≡ behind (first_said o (strips_returns o reads.bytes)) (carried_out (length v.patches) (bad_where (has_damaged v.ways v.text) (set_run o v f)))
carried-match o given before v read f made left reads =
    let first : List ℕ = first_said o (strips_returns o reads.bytes) in
    ap (λ (x : Result (List ℕ) InputFault). on_input o x f) reads.given
    ∙ ap (λ x. on_refusal o first x (clean_of o reads.bytes) f) reads.free
    ∙ ap (λ (t : List ℕ). on_patches o first t (patches_of (ways_of o) t) f) (sym reads.whole)
    ∙ ap (λ (ps : Result (List PlainPatch) Fault). on_patches o first before.text ps f) reads.patches
    ∙ ap (λ (n : ℕ). behind first (carried_out n (bad_where (has_damaged (ways_of o) before.text) (numbered_run o before.text (plain_patches before) f))))
    (length-map before.patches (patch_of before.text) ∙ long-made (asks_numbers o) o.numbers (Some f) before v made)
    ∙ ap (λ (r : Run). behind first (carried_out (length v.patches) (bad_where (has_damaged (ways_of o) before.text) r))) (run-made o given before v read f made)
    ∙ ap (λ (b : Bool). behind first (carried_out (length v.patches) (bad_where b (set_run o v f))))
    (ap (λ w. has_damaged w before.text) (sym read.ways) ∙ damaged-made (asks_numbers o) o.numbers (Some f) before v made)

can_apply : (o : PlainOptions) (text : List ℕ) (told : Option Files) (before v : SetView) → IsLawful o → IsRead o text before → IsMade (asks_numbers o) o.numbers told before v → IsFresh v → CanApply o v
can_apply o text told before v lawful read made fresh = record {
  lawful = lawful;
  names = names-made (asks_numbers o) o.numbers told before v made (read_names o text before read);
  verdicts = ap (λ l. length l) fresh.verdicts ∙ length-replicate (hunks_in v.patches) Untried;
}

-- the patch text and the set that is read from it are what the options ask for
pub asked_so : (o : PlainOptions) (bytes : List ℕ) (before v : SetView) (t : TreeView) (s : SourceView) → IsLawful o → input.IsAnswer (Ok bytes) o.input o.dir t s
    → IsRead o (clean_of o bytes) before → IsMade (asks_numbers o) o.numbers t.told before v → IsFresh v → refusal o (clean_of o bytes) ≡ None → (strips : Bool) → strips ≡ strips_returns o bytes → (a : ScratchView) (c : SinkView) → IsAsked o strips v (world t a s c)
asked_so o bytes before v t s lawful answer read made fresh free strips stripped a c = record {
  can = can_apply o (clean_of o bytes) t.told before v lawful read made fresh;
  before = before;
  given = clean_of o bytes;
  read = read;
  made = made;
  reads = λ f left told. record { bytes = bytes; given = answer f left told; free = free; whole = read.text; patches = read.patches };
  stripped = λ f left told. stripped;
}

fresh-made : (b : Bool) (numbers : BackupNumbers) (told : Option Files) (before v : SetView) → IsMade b numbers told before v → IsFresh before → IsFresh v
fresh-made true numbers told before v is fresh = is.fresh
fresh-made false numbers told before v is fresh = subst IsFresh (sym is) fresh

-- the same of the set with its numbers, which were asked for over the same files
pub asked_if : {E : Type 0} (o : PlainOptions) (bytes : List ℕ) (before : SetView) (t x : TreeView) (s : SourceView) → IsLawful o → input.IsAnswer (Ok bytes) o.input o.dir t s → IsRead o (clean_of o bytes) before → IsFresh before
    → refusal o (clean_of o bytes) ≡ None → (strips : Bool) → strips ≡ strips_returns o bytes → x.told ≡ t.told → (r : Result SetView E) → IfOk r (IsMade (asks_numbers o) o.numbers x.told before) → IfOk r (λ v. (a : ScratchView) (c : SinkView) → IsAsked o strips v (world t a s c))
asked_if o bytes before t x s lawful answer read fresh free strips stripped same (Ok v) made =
    let is : IsMade (asks_numbers o) o.numbers t.told before v = subst (λ (told : Option Files). IsMade (asks_numbers o) o.numbers told before v) same made in
    asked_so o bytes before v t s lawful answer read is (fresh-made (asks_numbers o) o.numbers t.told before v is fresh) free strips stripped
asked_if o bytes before t x s lawful answer read fresh free strips stripped same (Err e) made = tt

-- what is said of an answer holds where it is said of the answer of a call that comes last
pub on_ok_so : {R E : Type 0} (P : Type 0) (r : Result R E) → P → OnOk r P
on_ok_so P (Ok x) p = p
on_ok_so P (Err e) p = tt

pub standard_is : (i : Input) → is_standard i ≡ true → input.IsStandard i
standard_is Standard is = tt
standard_is (File name) is = absurd (false≢true is)

-- a run ends early where the numbers couldn't be asked for
pub numbers_stop : (why : Why) (job : Result PlainJob WordFault) (t x u : TreeView) (s r : SourceView) → Passes t x → ((why ≡ TreeFault) × Rises x u) ⊎ (why ≡ Memory) → (a : ScratchView) (c : SinkView) → StopsEarly why job (world t a s c) (world u a r c)
numbers_stop why job t x u s r passes cause a c = elim cause [
  | inl fault ↦ subst (λ (y : Why). StopsEarly y job (world t a s c) (world u a r c)) (sym fault.0) (record { cause = rises_then t x u passes fault.1; stops = tt })
  | inr memory ↦ subst (λ (y : Why). StopsEarly y job (world t a s c) (world u a r c)) (sym memory) (record { cause = tt; stops = tt })
]

-- ---- early ends

abbrev pub EndsEarly : Why → Result PlainJob WordFault → TreeView → TreeView → SourceView → SourceView → Type 0
EndsEarly why job t u s r = (a : ScratchView) (c : SinkView) → StopsEarly why job (world t a s c) (world u a r c)

-- a tree that couldn't be settled
pub settle_stops : (why : Why) (job : Result PlainJob WordFault) (t u : TreeView) (s : SourceView) → why ≡ TreeFault → Rises t u → EndsEarly why job t u s s
settle_stops why job t u s is rises a c = subst (λ (y : Why). StopsEarly y job (world t a s c) (world u a s c)) (sym is) (record { cause = rises; stops = tt })

-- ---- the same, seen from before a step that leaves the tree as it is told

module _ (t u : TreeView) (s : SourceView) (opens : Opens t u) where
  files_behind : (job : Result PlainJob WordFault) (a : ScratchView) (c : SinkView) (f : Files) → TellsFiles job (world t a s c) f → TellsFiles job (world u a s c) f
  files_behind job a c f files = record { files = opens.told ∙ files.files; scratch = files.scratch }

  told_behind : (i : Input) (f : Files) (left : List ℕ) → input.IsTold i t s f left → input.IsTold i u s f left
  told_behind Standard f left told = told
  told_behind (File name) f left told = opens.told ∙ told

  input_behind : (job : Result PlainJob WordFault) (a : ScratchView) (c : SinkView) (f : Files) (left : List ℕ) → TellsInput job (world t a s c) f left → TellsInput job (world u a s c) f left
  input_behind (Ok (patch o)) a c f left told = told_behind o.input f left told
  input_behind (Err fault) a c f left told = tt

  pub asked_behind : (o : PlainOptions) (strips : Bool) (v : SetView) (a : ScratchView) (c : SinkView) → IsAsked o strips v (world u a s c) → IsAsked o strips v (world t a s c)
  asked_behind o strips v a c asked = record { can = asked.can; before = asked.before; given = asked.given; read = asked.read; made = subst (λ (x : Option Files). IsMade (asks_numbers o) o.numbers x asked.before v) opens.told asked.made; reads = λ f left told. asked.reads f left (input_behind (Ok (patch o)) a c f left told); stripped = λ f left told. asked.stripped f left (input_behind (Ok (patch o)) a c f left told) }

  module _ (job : Result PlainJob WordFault) (w : TreeView) (r : SourceView) (a : ScratchView) (c : SinkView) where
    ends_behind : (why : Why) → EndsSo why job (world u a s c) → EndsSo why job (world t a s c)
    ends_behind why ends f left told = ends f left (input_behind job a c f left told)

    early_behind : (why : Why) → StopsEarly why job (world u a s c) (world w a r c) → StopsEarly why job (world t a s c) (world w a r c)
    early_behind Done early = absurd early.stops
    early_behind Rejected early = absurd early.stops
    early_behind (LongLine line size) early = absurd early.stops
    early_behind (FileTooLong size) early = absurd early.stops
    early_behind Usage early = record { cause = early.cause; stops = ends_behind Usage early.stops }
    early_behind NoPatchFile early = record { cause = early.cause; stops = ends_behind NoPatchFile early.stops }
    early_behind TooLong early = record { cause = early.cause; stops = ends_behind TooLong early.stops }
    early_behind (Malformed line kind) early = record { cause = early.cause; stops = ends_behind (Malformed line kind) early.stops }
    early_behind Garbage early = record { cause = early.cause; stops = ends_behind Garbage early.stops }
    early_behind (EdReverse line) early = record { cause = early.cause; stops = ends_behind (EdReverse line) early.stops }
    early_behind (OutMany count) early = record { cause = early.cause; stops = ends_behind (OutMany count) early.stops }
    early_behind (Reserved line) early = record { cause = early.cause; stops = ends_behind (Reserved line) early.stops }
    early_behind BadPattern early = absurd early.cause
    early_behind (NoContext line) early = absurd early.cause
    early_behind (Unfit line) early = absurd early.cause
    early_behind (BadState file) early = absurd early.cause
    early_behind (StackEnd applied) early = absurd early.cause
    early_behind (StackName line) early = absurd early.cause
    early_behind ReadFault early = record { cause = early.cause; stops = tt }
    early_behind WriteFault early = record { cause = early.cause; stops = tt }
    early_behind TreeFault early = record { cause = rises_then t u w opens.passes early.cause; stops = tt }
    early_behind ScratchFault early = record { cause = early.cause; stops = tt }
    early_behind (Disagree want got) early = record { cause = (early.cause.0, λ f files. early.cause.1 f (files_behind job a c f files)); stops = tt }
    early_behind Memory early = record { cause = tt; stops = tt }

  -- an early end of the job that the words ask for
  pub patches_stop : (why : Why) (o : PlainOptions) (job : Result PlainJob WordFault) → job ≡ Ok (patch o) → (w : TreeView) (r : SourceView) → EndsEarly why (Ok (patch o)) u w s r → EndsEarly why job t w s r
  patches_stop why o job is w r early a c = subst (λ (j : Result PlainJob WordFault). StopsEarly why j (world t a s c) (world w a r c)) (sym is) (early_behind (Ok (patch o)) w r a c why (early a c))
