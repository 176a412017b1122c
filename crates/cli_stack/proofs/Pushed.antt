-- What a push comes to, from its stages to the definition of the whole.
use Rattle.std.proofs.Common.{◌≡◌, ℕ, suc, ◌≤◌, List, [], ◌∷◌, ◌++◌, codes, drop, length, true, false, Option, Some, None, Ok, refl, sym, ◌∙◌, ap, arith}
use Rattle.std.specs.Prelude.{nat_lt}
use Rattle.std.proofs.lemmas.Bool.Decides.{nat_tests}
use Rattle.std.proofs.lemmas.List.{append-nil, drop_all}
use Rattle.std.specs.FinMap.{get}
use Rattle.outside.specs.Files.{Files}
use Rattle.outside.specs.TreeView.{TreeView}
use Rattle.outside.specs.SinkView.{SinkView}
use Rattle.outside.specs.ScratchView.{ScratchView}
use Rattle.outside.specs.Calls.{IsUntouched}
use Rattle.outside.specs.Quiet.{IsQuiet, Effect, after, after_all}
use Rattle.outside.specs.Quiet.Effect.{Put}
use Rattle.series_stack.specs.Saves.{Entry, entries_of, save_text}
use Rattle.series_stack.specs.Undoing.{entries_at}
use Rattle.series_stack.specs.declared.fault.StackFault.{StackFault}
use Rattle.series_stack.specs.declared.fault.StackFault.TheVariants as stack
use Rattle.series_stack.specs.Taking.{AreSaved, HasTakeCause, too_long}
use Rattle.series_stack.proofs.Taking.{save-read}
use Rattle.patch_set.specs.SetView.{SetView, plain_patches}
use Rattle.patch_run.specs.Run.{set_run}
use Rattle.series_stack.specs.Stack.{Stack, patch_name, save_name, undoing, undoing_by, recover}
use Rattle.series_stack.specs.Stack.Refusal.{AtEnd, NoPatch, OwnName}
use Rattle.series_stack.specs.Commands.{Application, Ending, Patch, checked, names_of, own_line, pushing, push_work, work_by}
use Rattle.series_stack.specs.Commands.{Ending as endings}
use Rattle.series_stack.specs.Commands.Work.{Pushing}
use Rattle.series_stack.specs.Outcomes.{closing, ending_text, recovered_text, run_effects, said, saving}
use Rattle.series_stack.specs.Outcomes.Answer.{Ended}
use Rattle.series_stack.specs.Outcomes as law
use Rattle.series_stack.proofs.Recovering.{recovering-is, recover-by}
use Rattle.stack_patch.specs.Reading.{push_options, application_of, patch_of_set, read_patch, targets_for}
use Rattle.cli_tool_words.specs.declared.jobs.StackOp.TheVariants.{Push}
use Rattle.cli_run_answers.specs.declared.why.Why.{Why}
use Rattle.cli_run_answers.specs.Answers.{is_own, is_early}
use Rattle.cli_stack.specs.Causes.{HasCause}
use Rattle.cli_run_answers.specs.declared.why.Why.TheVariants.{FileTooLong, StackEnd, StackName, TreeFault, Disagree, Memory}
use Rattle.cli_run_answers.specs.Worlds.{world}
use Rattle.cli_run_answers.specs.Outcomes.{Outcome, refused}
use Rattle.cli_stack.specs.Jobs.{operation}
use Rattle.cli_stack.specs.Command.{answer_why, behind, first_file, on_op, outcome_with, patch_why, saved_files, stop_in, stop_why}
use Rattle.cli_stack.specs.Comes.{Comes, StopsEarly}
use Rattle.cli_stack.specs.Stages.{IsNext, Stage, closed, ended, on_recovered, on_said, on_saved, saved_by}
use Rattle.cli_stack.specs.States.{IsNamed, IsState, plain_stack, stage_of}
use Rattle.cli_stack.specs.declared.reading.State.{State}
use Rattle.cli_stack.specs.Faults.{of_save}
use Rattle.stack_state.proofs.Stepping.{steps_untouched}
use Rattle.cli_stack.proofs.Coming.{comes_end, comes_is, comes_nothing}
use Rattle.cli_stack.proofs.Standing.{refusing, stands, working}

-- ---- the work of a push
push_works : (f : Files) (s : Stack) (name : List ℕ) (more : List (List ℕ)) (p : Patch) → drop s.applied s.patches ≡ name ∷ more → read_patch (get f (patch_name name)) ≡ Some p → own_line p.targets ≡ None
    → work_by read_patch (operation Push) f s ≡ Ok (Pushing name p)
push_works f s name more p left reads own =
    ap (λ (l : List (List ℕ)). push_work read_patch f s.applied l) left
    ∙ ap (λ (o : Option Patch). pushing name o) reads
    ∙ ap (λ (o : Option ℕ). checked name p o) own

-- ---- what is saved
pub said_stage : (v : SetView) (s : Stage) (names : List (List ℕ)) (save text : List ℕ) (f : Files) → names ≡ names_of (targets_for push_options (plain_patches v)) → save ≡ text → AreSaved names → too_long (entries_at f names) ≡ None → text ≡ save_text (entries_at f names)
    → on_said v s f ≡ behind (Put (save_name (suc s.applied)) save ∷ []) [] (on_saved v s (entries_of save) (after (Put (save_name (suc s.applied)) save) f))
said_stage v s names save text f named same saved short is =
    let es : List Entry = entries_at f names in
    let bytes : save ≡ save_text es = same ∙ is in
    let read : entries_of save ≡ Some es = ap entries_of bytes ∙ save-read f names saved short in
    let name : List ℕ = save_name (suc s.applied) in
    ap (λ (l : List (List ℕ)). saved_by v s (entries_at f l) (too_long (entries_at f l)) f) (sym named)
    ∙ ap (λ (o : Option ℕ). saved_by v s es o f) short
    ∙ ap (λ (o : Option (List Entry)). behind (Put name (save_text es) ∷ []) [] (on_saved v s o (after (Put name (save_text es)) f))) (sym read)
    ∙ ap (λ (b : List ℕ). behind (Put name b ∷ []) [] (on_saved v s (entries_of save) (after (Put name b) f))) (sym bytes)

long_stage : (v : SetView) (s : Stage) (names : List (List ℕ)) (size : ℕ) (f : Files) → names ≡ names_of (targets_for push_options (plain_patches v)) → too_long (entries_at f names) ≡ Some size → on_said v s f ≡ ended (FileTooLong size) [] []
long_stage v s names size f named long =
    ap (λ (l : List (List ℕ)). saved_by v s (entries_at f l) (too_long (entries_at f l)) f) (sym named)
    ∙ ap (λ (o : Option ℕ). saved_by v s (entries_at f names) o f) long

-- a save that isn't taken
pub save_fails : {u w : TreeView} {a : ScratchView} {c : SinkView} (e : StackFault) (v : SetView) (s : Stage) (names : List (List ℕ)) → names ≡ names_of (targets_for push_options (plain_patches v)) → IsUntouched u w → IsQuiet u → HasTakeCause e u w names
    → Comes Push (world u a c) (world w a c) (of_save e) (on_said v s)
save_fails (stack.BadState file) v s names named same quiet cause = absurd cause
save_fails {u = u} {w = w} {a = a} {c = c} (stack.FileTooLong size) v s names named same quiet cause =
    comes_is (on_said v s) (λ f told. long_stage v s names size f named (cause.1 f told))
    (comes_end {u = world u a c} {w = world w a c} (tt {0}) (FileTooLong size) refl refl (tt, cause.0) (steps_untouched c (tt {0}) same quiet) refl)
save_fails stack.Tree v s names named same quiet cause = comes_nothing TreeFault (on_said v s) same quiet refl refl cause
save_fails (stack.Disagree want got) v s names named same quiet cause = comes_nothing (Disagree want got) (on_said v s) same quiet refl refl (λ equal. let no : ⊥ = omega (arith, equal, cause.0) in no, λ f told. let never = sym told.files ∙ cause.1 in absurd (cc))
save_fails stack.Memory v s names named same quiet cause = comes_nothing Memory (on_said v s) same quiet refl refl tt

-- ---- one stage after another, as the law has them
-- the answer of the whole, with the why that a patch has which is cut off
abbrev whole : Option (List ℕ) → Why → law.Outcome → Outcome
whole held stop o = record { why = answer_why (patch_why held) stop o.answer; text = o.text; effects = o.effects }

ended-as : (held : Option (List ℕ)) (e : Ending) (a : List Effect) (t : List ℕ) (stop : Why) (s : Stage) (es : List Entry) (h g : Files) (first : Effect)
    → whole held stop (record { answer = Ended e; text = said (codes "Applying patch ") s.name ++ (t ++ ending_text e s.name s.applied s.all); effects = first ∷ (a ++ closing e s.applied es g) })
    ≡ behind [] (said (codes "Applying patch ") s.name) (behind (first ∷ []) [] (behind a t (closed e stop s (undoing_by (save_name (suc s.applied)) (Some es) g))))
ended-as held endings.Done a t stop s es h g first = refl
ended-as held endings.Rejected a t stop s es h g first = refl
ended-as held endings.CutOff a t stop s es h g first = refl

-- on recovered files
on-recovered : (held : Option (List ℕ)) (v : SetView) (s : Stage) (patches : List (List ℕ)) (all : s.all ≡ length patches) (f : Files) (es : List Entry) (long : Option ℕ) (stop : Why)
    → (long ≡ None → stop ≡ stop_why (set_run push_options v (after (saving s.applied es) f)).stop)
    → whole held stop (law.push_outcome s.name (patch_of_set v) (record { patches = patches; applied = s.applied }) es long f) ≡ behind [] (said (codes "Applying patch ") s.name) (saved_by v s es long f)
on-recovered held v s patches all f es (Some size) stop is = ap (λ (l : List ℕ). ended (FileTooLong size) [] l) (sym (append-nil (said (codes "Applying patch ") s.name)))
on-recovered held v s patches all f es None stop is =
    let h : Files = after (saving s.applied es) f in
    let a : Application = application_of (set_run push_options v h) in
    ap (λ (n : ℕ). whole held stop (record { answer = Ended a.ending; text = said (codes "Applying patch ") s.name ++ (a.text ++ ending_text a.ending s.name s.applied n); effects = saving s.applied es ∷ (a.effects ++ closing a.ending s.applied es (after_all a.effects h)) })) (sym all)
    ∙ ap (λ (y : Why). whole held y (record { answer = Ended a.ending; text = said (codes "Applying patch ") s.name ++ (a.text ++ ending_text a.ending s.name s.applied s.all); effects = saving s.applied es ∷ (a.effects ++ closing a.ending s.applied es (after_all a.effects h)) })) (is refl)
    ∙ ended-as held a.ending a.effects a.text (stop_why (set_run push_options v h).stop) s es h (after_all a.effects h) (saving s.applied es)

-- ---- the whole
module _ {u : TreeView} (s : State) (name : List ℕ) (v : SetView) (names : List (List ℕ)) (next : IsNext u name v names) (named : IsNamed s name) (state : IsState u s) (f : Files) (told : u.told ≡ Some f) where
  held : Option (List ℕ)
  held = get f (patch_name name)

  recovers_so : recover f ≡ after_all (undoing (suc s.stack.applied) f) f
  recovers_so = recover-by f (undoing (suc s.stack.applied) f) (recovering-is f (Ok (plain_stack s.stack)) (stands state f told).stack)

  pub pushed_is : on_op Push f ≡ behind (undoing (suc s.stack.applied) f) (recovered_text s.stack.applied (undoing (suc s.stack.applied) f)) (on_recovered v (stage_of s name) (after_all (undoing (suc s.stack.applied) f) f))
  unfolding held
  pushed_is =
      let st = stands state f told in
      let n = s.stack.applied in
      let g : Files = recover f in
      let es : List Entry = entries_at g (names_of (targets_for push_options (plain_patches v))) in
      let reads : read_patch held ≡ Some (patch_of_set v) = next.patch f told in
      let work = push_works f (plain_stack s.stack) name named.more (patch_of_set v) named.left reads next.own in
      working Push f (plain_stack s.stack) (Pushing name (patch_of_set v)) st.stack st.good work
      ∙ ap (λ (l : List (List ℕ)). outcome_with (first_file l f) n f (law.behind_recovery (plain_stack s.stack) (undoing (suc n) f) (law.work_outcome (Pushing name (patch_of_set v)) (plain_stack s.stack) g))) named.left
      ∙ ap (λ (o : Option Patch). whole held (stop_why (stop_in held (saved_files o n g))) (law.behind_recovery (plain_stack s.stack) (undoing (suc n) f) (law.work_outcome (Pushing name (patch_of_set v)) (plain_stack s.stack) g))) reads
      ∙ ap (λ (o : Outcome). behind (undoing (suc n) f) (recovered_text n (undoing (suc n) f)) o)
      (on-recovered held v (stage_of s name) s.stack.patches.items refl g es (too_long es) (stop_why (stop_in held (after (saving n es) g)))
      (λ none. ap stop_why (next.stop f (after (saving n es) g) told)))
      ∙ ap (λ (x : Files). behind (undoing (suc n) f) (recovered_text n (undoing (suc n) f)) (on_recovered v (stage_of s name) x)) recovers_so

-- ---- all are applied
pub all_stops : (u : TreeView) (a : ScratchView) (c : SinkView) (s : State) → IsState u s → length s.stack.patches.items ≤ s.stack.applied → StopsEarly (StackEnd s.stack.applied) Push (world u a c) (world u a c)
all_stops u a c s is all = record {
  cause = tt;
  early = λ own. refl;
  stops = λ own f told.
      let st = stands is f told in
      refusing Push f (plain_stack s.stack) (AtEnd s.stack.applied) st.stack st.good
      (ap (λ (l : List (List ℕ)). push_work read_patch f s.stack.applied l) (drop_all s.stack.applied s.stack.patches.items all));
}

-- ---- a name of the stack
pub own_stops : (u w : TreeView) (a : ScratchView) (c : SinkView) (s : State) (name : List ℕ) (p : Patch) (line : ℕ) → IsState u s → IsNamed s name → ((f : Files) → u.told ≡ Some f → read_patch (get f (patch_name name)) ≡ Some p) → own_line p.targets ≡ Some line
    → StopsEarly (StackName line) Push (world u a c) (world w a c)
own_stops u w a c s name p line is named reads own = record {
  cause = tt;
  early = λ is. refl;
  stops = λ is-own f told.
      let st = stands is f told in
      refusing Push f (plain_stack s.stack) (OwnName line) st.stack st.good
      (ap (λ (l : List (List ℕ)). push_work read_patch f s.stack.applied l) named.left ∙ ap (λ (o : Option Patch). pushing name o) (reads f told) ∙ ap (λ (o : Option ℕ). checked name p o) own);
}

-- ---- a patch that isn't read
no-patch : (u : TreeView) (s : State) (name : List ℕ) (why : Why) → IsState u s → IsNamed s name → (f : Files) → u.told ≡ Some f → read_patch (get f (patch_name name)) ≡ None → patch_why (get f (patch_name name)) ≡ why → on_op Push f ≡ refused why
no-patch u s name why is named f told none says =
    let st = stands is f told in
    refusing Push f (plain_stack s.stack) NoPatch st.stack st.good
    (ap (λ (l : List (List ℕ)). push_work read_patch f s.stack.applied l) named.left ∙ ap (λ (o : Option Patch). pushing name o) none)
    ∙ ap (λ (l : List (List ℕ)). refused (patch_why (first_file l f))) named.left
    ∙ ap (λ (y : Why). refused y) says

-- a refusal that the file and its text give
pub read-stops : {u w : TreeView} {a : ScratchView} {c : SinkView} (s : State) (name : List ℕ) (why : Why) → HasCause why (Ok Push) (world u a c) (world w a c) → (is_own why ≡ true → is_early why ≡ true) → IsState u s → IsNamed s name
    → ((f : Files) → u.told ≡ Some f → (read_patch (get f (patch_name name)) ≡ None) × (patch_why (get f (patch_name name)) ≡ why)) → StopsEarly why Push (world u a c) (world w a c)
read-stops {u = u} s name why cause early is named reads = record {
  cause = cause;
  early = early;
  stops = λ own f told. no-patch u s name why is named f told (reads f told).0 (reads f told).1;
}

-- ---- a tree that is told the same
pub next_on : {u v : TreeView} {name : List ℕ} {set : SetView} {names : List (List ℕ)} → IsUntouched u v → IsNext u name set names → IsNext v name set names
next_on same next = record {
  can = next.can;
  names = next.names;
  own = next.own;
  patch = λ f told. next.patch f (sym same.told ∙ told);
  stop = λ f g told. next.stop f g (sym same.told ∙ told);
}

pub not_less : (n m : ℕ) → nat_lt n m ≡ false → m ≤ n
not_less n m is = grind (arith, nat_tests)
