-- The patch of a push as it is read from its file.
use Rattle.std.proofs.Common.{◌≡◌, ◌⊎◌, ⊎_elim, ℕ, zero, suc, List, [], ◌∷◌, map, drop, length, Bool, true, false, ◌&&◌, Option, None, Some, Result, Ok, Err, refl, sym, ◌∙◌, ap, subst, arith, if◌then◌else◌}
use Rattle.std.specs.Prelude.{nat_le, nat_lt}
use Rattle.std.proofs.lemmas.Bool.Decides.{nat_tests}
use Rattle.std.specs.List.{AllByRecursion, list_all, slice_split}
use Rattle.std.proofs.lemmas.Bool.{false≢true}
use Rattle.std.proofs.lemmas.List.{drop_all, length-replicate}
use Rattle.std.specs.FinMap.{get}
use Rattle.outside.specs.Files.{Files}
use Rattle.outside.specs.TreeView.{TreeView}
use Rattle.outside.specs.ScratchView.{ScratchView}
use Rattle.outside.specs.SinkView.{SinkView}
use Rattle.outside.specs.Names.{is_absolute, is_kept, is_slash, components, kept, normal_form}
use Rattle.outside.proofs.Components.{Free, slash_free}
use Rattle.outside.proofs.Lawful.{begins, each_filter, filter_kept}
use Rattle.hunk_core.specs.Reading.{Fault}
use Rattle.hunk_core.specs.declared.Verdict.TheVariants.{Untried}
use Rattle.read_file_patch.specs.PlainPatch.{PlainPatch}
use Rattle.read_patch_text.specs.Patches.{patches_of}
use Rattle.read_clean_text.specs.Reading.{clean_of}
use Rattle.patch_set.specs.Asked.{ways_of}
use Rattle.patch_set.specs.declared.fault.SetFault.{SetFault}
use Rattle.patch_set.specs.declared.fault.SetFault.TheVariants as set
use Rattle.patch_set.specs.Refusals.{refusal}
use Rattle.patch_set.specs.SetView.{SetView, IsRead, IsFresh, hunks_in, plain_patches}
use Rattle.cli_run_answers.specs.declared.fault.InputFault.{InputFault}
use Rattle.cli_run_answers.specs.declared.fault.InputFault.TheVariants as input
use Rattle.cli_run_answers.specs.Input.{answer_of}
use Rattle.patch_run.specs.Run.{Run, set_run}
use Rattle.patch_run.specs.Finishes.{CanApply}
use Rattle.patch_run.proofs.Ready.{read_names}
use Rattle.series_stack.specs.Series.{is_feed, is_lawful, named_lines, series_of}
use Rattle.series_stack.specs.Stack.{patch_name}
use Rattle.series_stack.specs.Commands.{IsPatch, names_of, own_line}
use Rattle.series_stack.proofs.States.{stack-read}
use Rattle.series_stack.proofs.Works.{targets-saved}
use Rattle.stack_patch.specs.Reading.{push_options, patch_of_set, read_patch, targets_for}
use Rattle.stack_patch.proofs.Lawful.{options_lawful}
use Rattle.stack_patch.proofs.Reader.{reads}
use Rattle.read_clean_text.proofs.LongTexts.{long_refused}
use Rattle.stack_patch.proofs.Sets.{same_run}
use Rattle.stack_patch.specs.declared.PushFault.{PushFault}
use Rattle.stack_patch.specs.declared.PushFault.TheVariants.{Input, Set}
use Rattle.stack_patch.specs.Causes as causes
use Rattle.stack_patch.specs.Causes.{IsRefusal, RefusesSome}
use Rattle.stack_patch.specs.Pushes.{IsPush}
use Rattle.cli_tool_words.specs.declared.jobs.StackOp.TheVariants.{Push}
use Rattle.cli_run_answers.specs.declared.why.Why.{Why}
use Rattle.cli_run_answers.specs.declared.why.Why.TheVariants.{TreeFault, Disagree, Memory, StackName}
use Rattle.cli_run_answers.specs.Answers.{is_own, of_input, of_set, is_early}
use Rattle.cli_run_answers.specs.Worlds.{world}
use Rattle.cli_stack.specs.Causes.{HasCause}
use Rattle.cli_stack.proofs.Pushed.{own_stops, read-stops}
use Rattle.cli_stack.specs.Command.{input_why, patch_why, patches_stop, stop_in, text_why}
use Rattle.cli_stack.specs.Comes.{StopsEarly}
use Rattle.cli_stack.specs.Faults.{of_push}
use Rattle.cli_stack.specs.Stages.{IsNext}
use Rattle.cli_stack.specs.States.{IsNamed, IsState, plain_stack}
use Rattle.std.specs.Prelude.{IfOk, IfErr, OnOk}
use Rattle.cli_stack.specs.declared.reading.State.{State}
use Rattle.cli_stack.specs.declared.pushing.Next.{Next}
use Rattle.cli_stack.proofs.Standing.{stops_as}

-- ---- a name of the series isn't absolute
relative : (text : List ℕ) → is_absolute (normal_form text) ≡ false
relative text = begins (kept text) (each_filter is_kept (Free is_slash) (components text) (slash_free text)) (filter_kept is_kept (components text))

all-relative : (texts : List (List ℕ)) → AllByRecursion (λ n. is_absolute n ≡ false) (map normal_form texts)
all-relative [] = tt
all-relative (t ∷ texts) = (relative t, all-relative texts)

written-relative : (named names : List (List ℕ)) (b : Bool) → (if b then Some (map normal_form named) else None) ≡ Some names → AllByRecursion (λ n. is_absolute n ≡ false) names
written-relative named names true is = (let same : map normal_form named ≡ names = cc in subst (λ (l : List (List ℕ)). AllByRecursion (λ n. is_absolute n ≡ false) l) same (all-relative named))
written-relative named names false is = absurd (cc)

series-relative : (text : List ℕ) (names : List (List ℕ)) → series_of text ≡ Some names → AllByRecursion (λ n. is_absolute n ≡ false) names
unfolding series_of
series-relative text names is =
    let named = named_lines (slice_split is_feed text) in
    written-relative named names (list_all is_lawful named && nat_le (length named) 9999) is

behind-relative : (names : List (List ℕ)) (n : ℕ) (name : List ℕ) (more : List (List ℕ)) → AllByRecursion (λ m. is_absolute m ≡ false) names → drop n names ≡ name ∷ more → is_absolute name ≡ false
behind-relative [] n name more all left = absurd (let no : ◌≡◌ {A = List (List ℕ)} [] (name ∷ more) = sym (drop_all n [] (omega arith)) ∙ left in cc)
behind-relative (m ∷ names) zero name more all left = (let same : m ≡ name = cc in subst (λ (x : List ℕ). is_absolute x ≡ false) same all.0)
behind-relative (m ∷ names) (suc n) name more all left = behind-relative names n name more all.1 left

-- the file of the patch is the one that the definition reads
pub file_is : {u : TreeView} (s : State) (name file : List ℕ) → IsState u s → IsNamed s name → (is_absolute name ≡ false → file ≡ patch_name name) → (f : Files) → u.told ≡ Some f → file ≡ patch_name name
file_is s name file is named same f told =
    let read = stack-read f (plain_stack s.stack) (is.is.stack f told) in
    same (behind-relative s.stack.patches.items s.stack.applied name named.more (series-relative read.text s.stack.patches.items read.patches) named.left)

-- ---- the set is the next patch
can-apply : (given : List ℕ) (v : SetView) → IsRead push_options given v → IsFresh v → CanApply push_options v
can-apply given v read fresh = record { lawful = options_lawful; names = read_names push_options given v read; verdicts = ap length fresh.verdicts ∙ length-replicate (hunks_in v.patches) Untried }

stop-is : (given : List ℕ) (v : SetView) → IsRead push_options (clean_of push_options given) v → (g : Files) → stop_in (Some given) g ≡ (set_run push_options v g).stop
stop-is given v read g =
    ap (λ (t : List ℕ). patches_stop (patches_of (ways_of push_options) t) g) (sym read.text)
    ∙ ap (λ (r : Result (List PlainPatch) Fault). patches_stop r g) read.patches
    ∙ ap (λ (r : Run). r.stop) (sym (same_run (clean_of push_options given) v read g))

pub next_is : {u : TreeView} (s : State) (name file : List ℕ) (v : SetView) (names : List (List ℕ)) → IsState u s → IsNamed s name → (is_absolute name ≡ false → file ≡ patch_name name) → IsPush u file v → IsFresh v
    → names ≡ names_of (targets_for push_options (plain_patches v)) → own_line (targets_for push_options (plain_patches v)) ≡ None → IsNext u name v names
next_is s name file v names is named same push fresh are own =
    let patch : IsPatch (patch_of_set v) = reads.patches (Some push.given) (patch_of_set v) push.is.patch in
    record {
      can = record { can = can-apply (clean_of push_options push.given) v push.is.read fresh; patch = patch; saved = targets-saved (targets_for push_options (plain_patches v)) patch.names own };
      names = are;
      own = own;
      patch = λ f told. ap (λ (n : List ℕ). read_patch (get f n)) (sym (file_is s name file is named same f told)) ∙ ap read_patch (push.held f told) ∙ push.is.patch;
      stop = λ f g told. ap (λ (n : List ℕ). stop_in (get f n) g) (sym (file_is s name file is named same f told)) ∙ ap (λ (o : Option (List ℕ)). stop_in o g) (push.held f told) ∙ stop-is push.given v push.is.read g;
    }

-- ---- a patch that isn't read
not-most : (text : List ℕ) → nat_lt 268435456 (length text) ≡ true → nat_le (length text) 268435456 ≡ false
not-most text is = grind (arith, nat_tests)

at-most : (text : List ℕ) → nat_lt 268435456 (length text) ≡ false → nat_le (length text) 268435456 ≡ true
at-most text is = grind (arith, nat_tests)

-- the answer of a text that is refused
long-or : (b : Bool) (text : List ℕ) (fault : SetFault) → nat_lt 268435456 (length text) ≡ b → refusal push_options (clean_of push_options text) ≡ Some fault → patch_why (Some text) ≡ of_set fault
long-or true text fault long is =
    let same : Some set.TooLong ≡ Some fault = sym (long_refused push_options text long) ∙ is in
    let fault-is : set.TooLong ≡ fault = cc in
    ap (λ (v : Bool). input_why (if v then Ok text else Err input.TooLong)) (not-most text long) ∙ ap of_set fault-is
long-or false text fault short is =
    ap (λ (v : Bool). input_why (if v then Ok text else Err input.TooLong)) (at-most text short)
    ∙ ap text_why is

refused-why : (text : List ℕ) (fault : SetFault) → refusal push_options (clean_of push_options text) ≡ Some fault → patch_why (Some text) ≡ of_set fault
refused-why text fault is = long-or (nat_lt 268435456 (length text)) text fault refl is

module _ (u w : TreeView) (a : ScratchView) (c : SinkView) (s : State) (name file : List ℕ) (is : IsState u s) (named : IsNamed s name) (same : is_absolute name ≡ false → file ≡ patch_name name) where
  at_file : (P : Option (List ℕ) → Type 0) (f : Files) → u.told ≡ Some f → P (get f file) → P (get f (patch_name name))
  at_file P f told holds = subst (λ (n : List ℕ). P (get f n)) (file_is s name file is named same f told) holds

  -- by the file alone
  by-file : (fault : InputFault) → HasCause (of_input fault) (Ok Push) (world u a c) (world w a c) → (is_own (of_input fault) ≡ true → is_early (of_input fault) ≡ true) → ((f : Files) → u.told ≡ Some f → read_patch (get f file) ≡ None)
      → ((f : Files) → u.told ≡ Some f → answer_of (get f file) ≡ Err fault) → StopsEarly (of_input fault) Push (world u a c) (world w a c)
  by-file fault cause early none answers = read-stops s name (of_input fault) cause early is named
      (λ f told. (at_file (λ o. read_patch o ≡ None) f told (none f told), at_file (λ o. patch_why o ≡ of_input fault) f told (ap input_why (answers f told))))

  -- by its text
  by-text : (fault : SetFault) → HasCause (of_set fault) (Ok Push) (world u a c) (world w a c) → (is_own (of_set fault) ≡ true → is_early (of_set fault) ≡ true) → ((f : Files) → u.told ≡ Some f → read_patch (get f file) ≡ None)
      → ((f : Files) → u.told ≡ Some f → (text : List ℕ) × ((get f file ≡ Some text) × (refusal push_options (clean_of push_options text) ≡ Some fault))) → StopsEarly (of_set fault) Push (world u a c) (world w a c)
  by-text fault cause early none refuses = read-stops s name (of_set fault) cause early is named
      (λ f told. (
        at_file (λ o. read_patch o ≡ None) f told (none f told),
        at_file (λ o. patch_why o ≡ of_set fault) f told (let x = refuses f told in ap patch_why x.1.0 ∙ refused-why x.0 fault x.1.1),
      ))

  broken : (why : Why) → is_own why ≡ false → HasCause why (Ok Push) (world u a c) (world w a c) → StopsEarly why Push (world u a c) (world w a c)
  broken why own cause = record { cause = cause; early = λ yes. absurd (false≢true (sym own ∙ yes)); stops = λ yes. absurd (false≢true (sym own ∙ yes)) }

  -- a text, and not memory
  refusing-text : (fault : SetFault) → (fault ≡ set.Memory → ⊥) → (fault ≡ set.Memory) ⊎ ((f : Files) → u.told ≡ Some f → (text : List ℕ) × ((get f file ≡ Some text) × (refusal push_options (clean_of push_options text) ≡ Some fault)))
      → (f : Files) → u.told ≡ Some f → (text : List ℕ) × ((get f file ≡ Some text) × (refusal push_options (clean_of push_options text) ≡ Some fault))
  refusing-text fault not cause = ⊎_elim (λ memory. absurd (not memory)) (λ refuses. refuses) cause

  some-text : (fault : SetFault) → (fault ≡ set.Memory → ⊥) → (text : List ℕ) × ((fault ≡ set.Memory) ⊎ (refusal push_options (clean_of push_options text) ≡ Some fault)) → (text : List ℕ) × (refusal push_options (clean_of push_options text) ≡ Some fault)
  some-text fault not x = (x.0, ⊎_elim (λ memory. absurd (not memory)) (λ refuses. refuses) x.1)

  pub push_stops : (e : PushFault) → causes.HasCause e u w file → RefusesSome e → (IsRefusal e → (f : Files) → u.told ≡ Some f → read_patch (get f file) ≡ None) → StopsEarly (of_push e) Push (world u a c) (world w a c)
  push_stops (Input input.NoPatchFile) cause some none = by-file input.NoPatchFile tt (λ own. refl) (none tt) cause
  push_stops (Input input.TooLong) cause some none = by-file input.TooLong tt (λ own. refl) (none tt) cause
  push_stops (Input input.Source) cause some none = absurd cause
  push_stops (Input input.Tree) cause some none = broken TreeFault refl cause
  push_stops (Input (input.Disagree want got)) cause some none = broken (Disagree want got) refl (cause.0, λ f told. let never = sym told.files ∙ cause.1 in absurd (cc))
  push_stops (Input input.Memory) cause some none = broken Memory refl tt
  push_stops (Set (set.Malformed line kind)) cause some none =
      let not : set.Malformed line kind ≡ set.Memory → ⊥ = λ is-not. absurd (cc) in
      by-text (set.Malformed line kind) (tt, some-text (set.Malformed line kind) not some) (λ own. refl) (none tt) (refusing-text (set.Malformed line kind) not cause)
  push_stops (Set set.Garbage) cause some none =
      let not : set.Garbage ≡ set.Memory → ⊥ = λ is-not. absurd (cc) in
      by-text set.Garbage (tt, some-text set.Garbage not some) (λ own. refl) (none tt) (refusing-text set.Garbage not cause)
  push_stops (Set set.TooLong) cause some none =
      let not : set.TooLong ≡ set.Memory → ⊥ = λ is-not. absurd (cc) in
      by-text set.TooLong tt (λ own. refl) (none tt) (refusing-text set.TooLong not cause)
  push_stops (Set (set.OutMany count)) cause some none =
      let not : set.OutMany count ≡ set.Memory → ⊥ = λ is-not. absurd (cc) in
      by-text (set.OutMany count) (tt, some-text (set.OutMany count) not some) (λ own. refl) (none tt) (refusing-text (set.OutMany count) not cause)
  push_stops (Set (set.EdReverse line)) cause some none =
      let not : set.EdReverse line ≡ set.Memory → ⊥ = λ is-not. absurd (cc) in
      by-text (set.EdReverse line) (tt, some-text (set.EdReverse line) not some) (λ own. refl) (none tt) (refusing-text (set.EdReverse line) not cause)
  push_stops (Set (set.Reserved line)) cause some none =
      let not : set.Reserved line ≡ set.Memory → ⊥ = λ is-not. absurd (cc) in
      by-text (set.Reserved line) (tt, some-text (set.Reserved line) not some) (λ own. refl) (none tt) (refusing-text (set.Reserved line) not cause)
  push_stops (Set set.Memory) cause some none = broken Memory refl tt

-- ---- with its names, which may be the stack's
pub names_next : {u : TreeView} (s : State) (name file : List ℕ) (v : SetView) → IsState u s → IsNamed s name → (is_absolute name ≡ false → file ≡ patch_name name) → IsPush u file v → IsFresh v → (r : Result Next Why)
    → IfOk r (λ next. next.set ≡ v) → IfOk r (λ next. next.names.items ≡ names_of (targets_for push_options (plain_patches v))) → OnOk r (own_line (targets_for push_options (plain_patches v)) ≡ None)
    → IfOk r (λ next. IsNext u name next.set next.names.items)
names_next {u = u} s name file v is named same push fresh (Ok next) set-is are own =
    subst (λ (x : SetView). IsNext u name x next.names.items) (sym set-is) (next_is s name file v next.names.items is named same push fresh are own)
names_next s name file v is named same push fresh (Err why) set-is are own = tt

pub names_stop : (u w : TreeView) (s : State) (name file : List ℕ) (v : SetView) → IsState u s → IsNamed s name → (is_absolute name ≡ false → file ≡ patch_name name) → IsPush u file v → (r : Result Next Why)
    → IfErr r (λ why. (why ≡ Memory) ⊎ ((line : ℕ) × (why ≡ StackName line) × (own_line (targets_for push_options (plain_patches v)) ≡ Some line)))
    → IfErr r (λ why. (a : ScratchView) (c : SinkView) → StopsEarly why Push (world u a c) (world w a c))
names_stop u w s name file v is named same push (Ok next) refused = tt
names_stop u w s name file v is named same push (Err why) refused = λ a c. ⊎_elim
    (λ (memory : why ≡ Memory). stops_as why Memory memory (broken u w a c s name file is named same Memory refl tt))
    (λ (line, says, own). stops_as why (StackName line) says (own_stops u w a c s name (patch_of_set v) line is named (λ f told.
    ap (λ (n : List ℕ). read_patch (get f n)) (sym (file_is s name file is named same f told)) ∙ ap read_patch (push.held f told) ∙ push.is.patch) own))
    refused
