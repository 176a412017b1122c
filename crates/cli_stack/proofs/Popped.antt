-- What the commands come to that apply no patch.
use Rattle.std.proofs.Common.{◌≡◌, ℕ, zero, suc, ◌<◌, ◌≤◌, nat_lt, get_or, List, [], ◌∷◌, ◌++◌, codes, drop, length, Bool, true, false, is_some, is_none, IsSome, Option, Some, None, Ok, Err, refl, sym, ◌∙◌, ap, subst, arith, drop-cons}
use Rattle.std.proofs.lemmas.Bool.{false≢true}
use Rattle.std.proofs.lemmas.Bool.Decides.{nat_tests}
use Rattle.std.specs.FinMap.{get}
use Rattle.outside.specs.Files.{Files}
use Rattle.outside.specs.TreeView.{TreeView}
use Rattle.outside.specs.ScratchView.{ScratchView}
use Rattle.outside.specs.SinkView.{SinkView}
use Rattle.outside.specs.Calls.{IsThere, IsUntouched}
use Rattle.outside.proofs.Views.{told_back}
use Rattle.std.proofs.lemmas.Option.{same_Some}
use Rattle.stack_state.specs.Steps.{Steps}
use Rattle.outside.specs.Quiet.{Effect, after, after_all}
use Rattle.cli_tool_words.specs.declared.jobs.StackOp.TheVariants.{Pop, Applied}
use Rattle.series_stack.specs.declared.fault.StateFile.TheVariants.{Save}
use Rattle.series_stack.specs.Saves.{Entry, entries_of}
use Rattle.series_stack.specs.Stack.{Refusal, save_name, saved_in, undoing, undoing_by, recover}
use Rattle.series_stack.specs.Stack.Refusal.{NoSeries, Bad, AtEnd}
use Rattle.series_stack.specs.Commands.{work_by, popping, popped}
use Rattle.series_stack.specs.Commands.Work.{Popping, Telling}
use Rattle.series_stack.specs.Outcomes.{lowering, recovered_text, said, tally}
use Rattle.series_stack.proofs.Popping.{count_apart}
use Rattle.series_stack.proofs.Recovering.{IsReady, recovering-is, recover-by}
use Rattle.series_stack.proofs.Recovery.{recovery}
use Rattle.series_stack.proofs.Works.{work-ready}
use Rattle.stack_patch.specs.Reading.{read_patch}
use Rattle.stack_state.specs.Reading.{last_save, whole_save}
use Rattle.stack_state.specs.declared.fault.StateFault.{StateFault}
use Rattle.stack_state.specs.declared.fault.StateFault.TheVariants as state
use Rattle.stack_state.specs.Causes as causes
use Rattle.stack_state.proofs.Restoring.{undone-is}
use Rattle.cli_run_answers.specs.declared.why.Why.TheVariants.{Done, StackEnd, BadState}
use Rattle.cli_run_answers.specs.Worlds.{world}
use Rattle.cli_run_answers.specs.Outcomes.{refused}
use Rattle.cli_stack.specs.Jobs.{operation}
use Rattle.cli_stack.specs.Command.{behind, on_op}
use Rattle.cli_stack.specs.Comes.{StopsEarly}
use Rattle.cli_stack.specs.Faults.{of_state}
use Rattle.cli_stack.specs.Stages.{ended}
use Rattle.cli_stack.specs.States.{IsState, plain_stack}
use Rattle.cli_stack.specs.declared.reading.State.{State}
use Rattle.cli_stack.proofs.Standing.{Stands, stands, good_work, refusing, working}

-- ---- the patches are counted
pub applied_is : (f : Files) (s : State) → Stands f s
    → on_op Applied f ≡ behind (undoing (suc s.stack.applied) f) (recovered_text s.stack.applied (undoing (suc s.stack.applied) f)) (ended Done [] (tally s.stack.applied (length s.stack.patches.items)))
applied_is f s st = working Applied f (plain_stack s.stack) Telling st.stack st.good refl

-- ---- none is taken back
none_left : (f : Files) (patches : List (List ℕ)) (n : ℕ) → n ≡ 0 → work_by read_patch (operation Pop) f (record { patches = patches; applied = n }) ≡ Err (AtEnd 0)
none_left f patches zero is = refl
none_left f patches (suc n) is = absurd (let no : ⊥ = omega (arith, is) in no)

pub end_stops : (u : TreeView) (a : ScratchView) (c : SinkView) (s : State) → IsState u s → s.stack.applied ≡ 0 → StopsEarly (StackEnd 0) Pop (world u a c) (world u a c)
end_stops u a c s is none = record {
  cause = refl;
  early = λ own. refl;
  stops = λ own f told.
      let st = stands is f told in
      refusing Pop f (plain_stack s.stack) (AtEnd 0) st.stack st.good (none_left f s.stack.patches.items s.stack.applied none);
}

-- ---- the save of the last one
last-held : (o : Option (List ℕ)) (e : Option (List Entry)) (save : List ℕ) → whole_save o e ≡ Ok save → (o ≡ Some save) × (is_some e ≡ true)
last-held None e save is = absurd (cc)
last-held (Some text) None save is = absurd (cc)
last-held (Some text) (Some es) save is = (let same : text ≡ save = cc in ap (λ (t : List ℕ). Some t) same, refl)

last-refused : (o : Option (List ℕ)) (e : Option (List Entry)) (r : Refusal) → saved_in o ≡ e → whole_save o e ≡ Err r → (is_some e ≡ false) × (r ≡ Bad Save)
last-refused None e r same is = (ap is_some (sym same), cc)
last-refused (Some text) None r same is = (refl, cc)
last-refused (Some text) (Some es) r same is = absurd (cc)

pop_by : (f : Files) (patches : List (List ℕ)) (k n : ℕ) (b : Bool) → k ≡ suc n → is_some (saved_in (get f (save_name (suc n)))) ≡ b → work_by read_patch (operation Pop) f (record { patches = patches; applied = k }) ≡ popping n (drop n patches) b
pop_by f patches zero n b is saved = absurd (let no : ⊥ = omega (arith, is) in no)
pop_by f patches (suc k) n b is saved =
    let same : k ≡ n = omega (arith, is) in
    ap (λ (m : ℕ). popping m (drop m patches) (is_some (saved_in (get f (save_name (suc m)))))) same ∙ ap (λ (v : Bool). popping n (drop n patches) v) saved

bad_last : (s : State) (n : ℕ) (r : Refusal) → s.stack.applied ≡ suc n → (f : Files) → Stands f s → last_save s.stack.applied f ≡ Err r → (on_op Pop f ≡ refused (BadState Save)) × (r ≡ Bad Save)
bad_last s n r some f st refuses =
    let both = last-refused (get f (save_name (suc n))) (saved_in (get f (save_name (suc n)))) r refl (ap (λ (k : ℕ). last_save k f) (sym some) ∙ refuses) in
    (refusing Pop f (plain_stack s.stack) (Bad Save) st.stack st.good (pop_by f s.stack.patches.items s.stack.applied n false some both.0), both.1)

pub last_stops : (e : StateFault) (u w : TreeView) (a : ScratchView) (c : SinkView) (s : State) (n : ℕ) → IsState u s → s.stack.applied ≡ suc n → causes.HasCause e u w (last_save s.stack.applied) → StopsEarly (of_state e) Pop (world u a c) (world w a c)
last_stops state.NoSeries u w a c s n is some cause = record {
  cause = tt;
  early = λ own. refl;
  stops = λ own f told. let both = bad_last s n NoSeries some f (stands is f told) (cause f told) in let never = both.1 in absurd (cc);
}
last_stops (state.Bad file) u w a c s n is some cause = record {
  cause = tt;
  early = λ own. refl;
  stops = λ own f told.
      let both = bad_last s n (Bad file) some f (stands is f told) (cause f told) in
      let same : file ≡ Save = cc in
      both.0 ∙ ap (λ x. refused (BadState x)) (sym same);
}
last_stops state.Tree u w a c s n is some cause = record { cause = cause; early = λ own. absurd (false≢true own); stops = λ own. absurd (false≢true own) }
last_stops (state.Disagree want got) u w a c s n is some cause = record {
  cause = (λ equal. let no : ⊥ = omega (arith, equal, cause.0) in no, λ f told. let never = sym told.files ∙ cause.1 in absurd (cc));
  early = λ own. absurd (false≢true own);
  stops = λ own. absurd (false≢true own);
}
last_stops state.Memory u w a c s n is some cause = record { cause = tt; early = λ own. absurd (false≢true own); stops = λ own. absurd (false≢true own) }

-- ---- the last one is taken back
module _ (f : Files) (s : State) (st : Stands f s) (n : ℕ) (some : s.stack.applied ≡ suc n) (name : List ℕ) (more : List (List ℕ)) (left : drop n s.stack.patches.items ≡ name ∷ more)
    (save : List ℕ) (last : last_save s.stack.applied f ≡ Ok save) where
  held : (get f (save_name (suc n)) ≡ Some save) × (is_some (saved_in (get f (save_name (suc n)))) ≡ true)
  held = last-held (get f (save_name (suc n))) (saved_in (get f (save_name (suc n)))) save (ap (λ (k : ℕ). last_save k f) (sym some) ∙ last)

  pop_works : work_by read_patch (operation Pop) f (plain_stack s.stack) ≡ Ok (Popping name n)
  pop_works = pop_by f s.stack.patches.items s.stack.applied n true some held.1 ∙ ap (λ (l : List (List ℕ)). popped n l) left

  ready : IsReady f (plain_stack s.stack)
  ready = work-ready read_patch (operation Pop) f (plain_stack s.stack) (Popping name n) st.stack (good_work Pop f (plain_stack s.stack) st.good ∙ pop_works)

  -- the save is still there once an interrupted command is undone
  pub still_saved : get (recover f) (save_name (suc n)) ≡ Some save
  still_saved = (recovery f (plain_stack s.stack) ready).saves (suc n) (λ same. let no : ⊥ = omega (arith, same, some) in no) ∙ held.0

  recovers_so : recover f ≡ after_all (undoing (suc s.stack.applied) f) f
  recovers_so = recover-by f (undoing (suc s.stack.applied) f) (recovering-is f (Ok (plain_stack s.stack)) st.stack)

  popped_so : (g : Files) → recover f ≡ g → undoing (suc n) (after (lowering n) (recover f)) ≡ undoing_by (save_name (suc n)) (entries_of save) (after (lowering n) g)
  popped_so g same =
      undone-is (suc n) save (after (lowering n) (recover f)) (count_apart (recover f) n (suc n) ∙ still_saved)
      ∙ ap (λ (x : Files). undoing_by (save_name (suc n)) (entries_of save) (after (lowering n) x)) same

  pub popped_is : on_op Pop f ≡ behind (undoing (suc s.stack.applied) f) (recovered_text s.stack.applied (undoing (suc s.stack.applied) f))
      (ended Done (lowering n ∷ undoing_by (save_name (suc n)) (entries_of save) (after (lowering n) (after_all (undoing (suc s.stack.applied) f) f))) (said (codes "Removing patch ") name ++ tally n (length s.stack.patches.items)))
  popped_is =
      working Pop f (plain_stack s.stack) (Popping name n) st.stack st.good pop_works
      ∙ ap (λ (es : List Effect). behind (undoing (suc s.stack.applied) f) (recovered_text s.stack.applied (undoing (suc s.stack.applied) f)) (ended Done (lowering n ∷ es) (said (codes "Removing patch ") name ++ tally n (length s.stack.patches.items))))
      (popped_so (after_all (undoing (suc s.stack.applied) f) f) recovers_so)

  -- in words of the calls: the save is there behind the recovery
  pub there_behind : get (after_all (undoing (suc s.stack.applied) f) f) (save_name (suc n)) ≡ Some save
  there_behind = ap (λ (x : Files). get x (save_name (suc n))) (sym recovers_so) ∙ still_saved

-- ---- what the calls need
pub none_below : (n : ℕ) → nat_lt 0 n ≡ false → n ≡ 0
none_below n is = grind (arith, nat_tests)

some-entries : (o : Option (List Entry)) → is_none o ≡ false → IsSome o
some-entries None is = absurd (false≢true (sym is))
some-entries (Some es) is = refl

pub some_entries : (text save : List ℕ) → save ≡ text → is_none (entries_of text) ≡ false → IsSome (entries_of save)
some_entries text save same is = some-entries (entries_of save) (ap (λ (l : List ℕ). is_none (entries_of l)) same ∙ is)

pub last_on : {u v : TreeView} → IsUntouched u v → (k : ℕ) (text save : List ℕ) → save ≡ text → ((f : Files) → u.told ≡ Some f → last_save k f ≡ Ok text) → (f : Files) → v.told ≡ Some f → last_save k f ≡ Ok save
last_on untouched k text save same last f told = last f (sym untouched.told ∙ told) ∙ ap (λ (l : List ℕ). Ok l) (sym same)

-- the name of the last patch that is applied
pub last_of : List (List ℕ) → ℕ → List ℕ
last_of names n = get_or names n []

pub last_there : (names : List (List ℕ)) (n k : ℕ) → k ≡ suc n → k ≤ length names → drop n names ≡ last_of names n ∷ drop k names
unfolding last_of
last_there [] n k is few = absurd (let no : ⊥ = omega (arith, is, few) in no)
last_there (m ∷ names) zero k is few = ap (λ (j : ℕ). m ∷ drop j (m ∷ names)) (sym is)
last_there (m ∷ names) (suc n) zero is few = absurd (let no : ⊥ = omega (arith, is) in no)
last_there (m ∷ names) (suc n) (suc k) is few = last_there names n k (omega (arith, is)) (omega (arith, few))

-- a name of the list stands in front of those behind it
pub stands_before : (names : List (List ℕ)) (n k : ℕ) (name : List ℕ) → k ≡ suc n → n < length names → name ≡ get_or names n name → drop n names ≡ name ∷ drop k names
stands_before names n k name is few at = drop-cons names n name few ∙ ap (λ (m : List ℕ). m ∷ drop (suc n) names) (sym at) ∙ ap (λ (j : ℕ). name ∷ drop j names) (sym is)

pub there_after : {R : Type 0} {u w : TreeView} {c d : SinkView} (s : State) (n : ℕ) (some : s.stack.applied ≡ suc n) (name : List ℕ) (more : List (List ℕ)) → drop n s.stack.patches.items ≡ name ∷ more → (save : List ℕ) (x : R)
    → IsState u s → ((f : Files) → u.told ≡ Some f → last_save s.stack.applied f ≡ Ok save)
    → Steps u w c d (Ok x) (undoing (suc s.stack.applied)) (λ f. recovered_text s.stack.applied (undoing (suc s.stack.applied) f)) → IsThere w (save_name (suc n))
there_after s n some name more left save x is last steps g now =
    let was = told_back g steps.tree now in
    let same : after_all (undoing (suc s.stack.applied) was.0) was.0 ≡ g = same_Some _ _ (sym (steps.ok was.0 was.1).told ∙ now) in
    let there : get g (save_name (suc n)) ≡ Some save = ap (λ (y : Files). get y (save_name (suc n))) (sym same) ∙ there_behind was.0 s (stands is was.0 was.1) n some name more left save (last was.0 was.1) in
    subst (λ (o : Option (List ℕ)). IsSome o) (sym there) refl
