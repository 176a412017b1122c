-- A patch that is run on the files with its save, and what is done behind it.
use Rattle.std.proofs.Common.{◌≡◌, ℕ, suc, ◌+◌, ◌<◌, ◌-◌, List, [], ◌∷◌, ◌++◌, map, Bool, true, false, not, cond, is_some, IsSome, Option, Some, None, Result, Ok, Err, refl, sym, ◌∙◌, ap, subst, arith}
use Rattle.std.proofs.lemmas.Bool.{false≢true}
use Rattle.std.proofs.lemmas.List.{append-nil}
use Rattle.std.specs.FinMap.{get}
use Rattle.outside.specs.Files.{Files, SameLasting, is_temp, lasting-both}
use Rattle.outside.specs.TreeView.{TreeView, Passes, passes_both}
use Rattle.outside.specs.Faults.{HasRisen}
use Rattle.outside.specs.SinkView.{SinkView, SinkPasses, sink_passes_both, Receives, ReceivesPart}
use Rattle.outside.specs.SinkView as sink
use Rattle.outside.specs.ScratchView.{ScratchView, ScratchPasses, scratch_passes_both}
use Rattle.outside.specs.Calls.{IsThere}
use Rattle.outside.specs.Quiet.{IsQuiet, Effect, after_all, HasMade, LeavesPrefix}
use Rattle.outside.specs.Quiet.Effect.{Remove}
use Rattle.outside.proofs.Effects.{since_longer, tells_longer}
use Rattle.outside.proofs.Views.{rises_first}
use Rattle.outside.proofs.Writing.{received_both, part_after, part_longer}
use Rattle.series_stack.specs.Saves.{Entry, name_of, entries_of}
use Rattle.series_stack.specs.Saves.Entry.{Missing, Held}
use Rattle.series_stack.specs.Restoring.{effects_of, restoring}
use Rattle.series_stack.specs.Taking.{AreSaved}
use Rattle.series_stack.proofs.EffectLists.{after_all-append, leaves_after, tells_after}
use Rattle.series_stack.proofs.Entries.{entries-sound}
use Rattle.series_stack.proofs.Steps.{restoring-cons, restoring-nil}
use Rattle.series_stack.specs.Stack.{save_name, undoing_by}
use Rattle.series_stack.specs.Commands.{Ending}
use Rattle.series_stack.specs.Commands.{Ending as endings}
use Rattle.series_stack.specs.Undoing.{SameBeside}
use Rattle.series_stack.specs.Commands.{names_of}
use Rattle.series_stack.proofs.Every.{every-last}
use Rattle.series_stack.proofs.Names.{save-lasting, save-own, saved-lasting}
use Rattle.series_stack.proofs.Touching.{beside-same, entries-saved, every-beside, own_apart}
use Rattle.line_store.specs.declared.fault.OpenFault.{OpenFault}
use Rattle.line_store.specs.declared.fault.OpenFault.TheVariants as open_fault
use Rattle.apply_task.specs.Faults.{of_open}
use Rattle.apply_task.specs.declared.fault.RunFault.{RunFault}
use Rattle.apply_task.specs.declared.fault.RunFault.TheVariants as runs
use Rattle.apply_task.proofs.EffectLists.{after_all-at}
use Rattle.apply_task.specs.Making.{IsTidy}
use Rattle.apply_task.proofs.Tidy.{tidy_both}
use Rattle.stack_state.proofs.Restoring.{undone-there}
use Rattle.stack_state.proofs.Stepping.{one_more}
use Rattle.patch_run.specs.Applied.{Receipt}
use Rattle.patch_run.specs.Run.{set_run}
use Rattle.patch_run.specs.Doing.{IsFar, IsPartOf, QuietAfter}
use Rattle.patch_set.specs.SetView.{SetView, plain_patches}
use Rattle.patch_run.specs.Finishes.{Finishes, IsToldTo}
use Rattle.stack_patch.specs.Reading.{push_options, ending_by, targets_for}
use Rattle.stack_state.specs.Steps.{Steps}
use Rattle.stack_state.specs.Undoing.{undone_by}
use Rattle.cli_tool_words.specs.declared.jobs.StackOp.TheVariants.{Push}
use Rattle.cli_run_answers.specs.declared.why.Why.{Why}
use Rattle.cli_run_answers.specs.declared.why.Why.TheVariants.{Done}
use Rattle.cli_run_answers.specs.Answers.{is_own, of_run, is_early}
use Rattle.cli_run_answers.specs.Moments.{FirstPart}
use Rattle.cli_run_answers.specs.Worlds.{World, world}
use Rattle.cli_run_answers.specs.Outcomes.{Outcome}
use Rattle.cli_stack.specs.Command.{behind, stop_why}
use Rattle.cli_stack.specs.Worlds.{Tells}
use Rattle.cli_stack.specs.Causes.{HasCause}
use Rattle.cli_stack.specs.Carries.{Answers}
use Rattle.cli_stack.specs.Comes.{Comes}
use Rattle.cli_stack.specs.Stages.{CanPush, Closes, HasCut, IsCut, IsStill, Stage, closed, ended, ending_if, is_cut, on_saved}
use Rattle.cli_stack.proofs.Coming.{cause_then, comes_end, comes_is, comes_stop, comes_why, part-answers}

-- ---- which of the two ends it is
pub ended-whole : {u w : World} {why : Why} (s : Stage) (undoing : Files → List Effect) (bad : Bool) → not bad ≡ true → Comes Push u w why (λ f. closed endings.Done Done s (undoing f)) → Comes Push u w why (λ f. closed (ending_if bad) Done s (undoing f))
ended-whole s undoing true is comes = absurd (false≢true is)
ended-whole s undoing false is comes = comes

pub ended-bad : {u w : World} {why : Why} (s : Stage) (undoing : Files → List Effect) (bad : Bool) → not bad ≡ false → Comes Push u w why (λ f. closed endings.Rejected Done s (undoing f)) → Comes Push u w why (λ f. closed (ending_if bad) Done s (undoing f))
ended-bad s undoing true is comes = comes
ended-bad s undoing false is comes = absurd (false≢true (sym is))

-- ---- a patch that is cut off
cut-own : (cut : RunFault) → IsCut cut → (is_own (of_run cut) ≡ true) × (is_early (of_run cut) ≡ false)
cut-own runs.Tree is = absurd is
cut-own runs.Write is = absurd is
cut-own runs.Scratch is = absurd is
cut-own (runs.LongLine line size) is = (refl, refl)
cut-own (runs.FileTooLong size) is = (refl, refl)
cut-own (runs.Disagree want got) is = absurd is
cut-own runs.Memory is = absurd is

cut-cause : (cut : RunFault) (u w : World) → IsCut cut → HasCause (of_run cut) (Ok Push) u w
cut-cause runs.Tree u w is = absurd is
cut-cause runs.Write u w is = absurd is
cut-cause runs.Scratch u w is = absurd is
cut-cause (runs.LongLine line size) u w is = (tt, is)
cut-cause (runs.FileTooLong size) u w is = (tt, is)
cut-cause (runs.Disagree want got) u w is = absurd is
cut-cause runs.Memory u w is = absurd is

abbrev undone : ℕ → Option (List Entry) → Files → List Effect
undone n entries f = undone_by (save_name (suc n)) entries f

pub cut-comes : {R : Type 0} {t v : TreeView} {a : ScratchView} {c : SinkView} (cut : RunFault) (why : Why) (s : Stage) (n : ℕ) (entries : Option (List Entry)) → IsCut cut → s.applied ≡ n → why ≡ of_run cut → (x : R)
    → Steps t v c c (Ok x) (undone_by (save_name (n + 1)) entries) (λ f. []) → Comes Push (world t a c) (world v a c) why (λ f. closed endings.CutOff (of_run cut) s (undone s.applied entries f))
cut-comes {t = t} {v = v} {a = a} {c = c} cut why s n entries is same says x steps =
    let own = cut-own cut is in
    comes_why why (of_run cut) says
    (comes_is (λ f. closed endings.CutOff (of_run cut) s (undone s.applied entries f)) (λ f told. ap (λ (k : ℕ). ended (of_run cut) (undone k entries f) []) same)
    (comes_end {u = world t a c} {w = world v a c} x (of_run cut) own.0 own.1 (cut-cause cut (world t a c) (world v a c) is) (one_more (λ k. Steps t v c c (Ok x) (undone_by (save_name k) entries) (λ f. [])) n steps) refl))

pub cut-fails : {R : Type 0} {t v : TreeView} {a : ScratchView} {c : SinkView} (e cut : RunFault) (why : Why) (s : Stage) (n : ℕ) (entries : Option (List Entry)) → s.applied ≡ n → why ≡ of_run e
    → Steps {R = R} t v c c (Err e) (undone_by (save_name (n + 1)) entries) (λ f. []) → Comes Push (world t a c) (world v a c) why (λ f. closed endings.CutOff (of_run cut) s (undone s.applied entries f))
cut-fails {R = R} {t = t} {v = v} {a = a} {c = c} e cut why s n entries same says steps =
    comes_why why (of_run e) says
    (comes_is (λ f. closed endings.CutOff (of_run cut) s (undone s.applied entries f))
    (λ f told. ap (λ (k : ℕ). ended (of_run cut) (undone k entries f) []) same ∙ ap (λ (l : List Effect). ended (of_run cut) l []) (sym (append-nil (undone n entries f))))
    (comes_stop {u = world t a c} {w = world v a c} e (λ f. ended (of_run cut) [] []) (one_more (λ k. Steps {R = R} t v c c (Err e) (undone_by (save_name k) entries) (λ f. [])) n steps) refl))

-- ---- files that are the same are undone the same
entry-alike : (e : Entry) (f g : Files) → is_temp (name_of e) ≡ false → SameLasting f g → effects_of e f ≡ effects_of e g
entry-alike (Held name bytes) f g lasting same = refl
entry-alike (Missing name) f g lasting same = ap (λ (o : Option (List ℕ)). cond (is_some o) (Remove name ∷ []) []) (sym (same.at name lasting))

all-alike : (es : List Effect) (f g : Files) → SameLasting f g → SameLasting (after_all es f) (after_all es g)
all-alike es f g same = record { at = λ q lasting. after_all-at es g f q (same.at q lasting) }

restoring-alike : (es : List Entry) (f g : Files) → AreSaved (map name_of es) → SameLasting f g → restoring es f ≡ restoring es g
restoring-alike [] f g all same = restoring-nil f ∙ sym (restoring-nil g)
restoring-alike (e ∷ es) f g all same =
    let here : effects_of e f ≡ effects_of e g = entry-alike e f g (saved-lasting (name_of e) all.0).0 same in
    restoring-cons e es f
    ∙ ap (λ (l : List Effect). effects_of e f ++ l) (restoring-alike es (after_all (effects_of e f) f) (after_all (effects_of e f) g) all.1 (all-alike (effects_of e f) f g same))
    ∙ ap (λ (l : List Effect). l ++ restoring es (after_all l g)) here
    ∙ sym (restoring-cons e es g)

undoing-alike : (save name : List ℕ) (o : Option (List Entry)) (f g : Files) → entries_of save ≡ o → SameLasting f g → undoing_by name o f ≡ undoing_by name o g
undoing-alike save name None f g is same = refl
undoing-alike save name (Some es) f g is same = ap (λ (l : List Effect). l ++ Remove name ∷ []) (restoring-alike es f g (entries-saved es (entries-sound save es is).saved) same)

-- ---- behind a run made whole
far-then : (u v w : World) (b : Bool) (why : Why) (es : List Effect) (t : List ℕ) (f g : Files) (o : Outcome) → HasMade u.tree v.tree es → Receives u.out v.out t → u.tree.told ≡ Some f → v.tree.told ≡ Some g → Passes v.tree w.tree
    → Answers b why g v w o → Answers b why f u w (behind es t o)
far-then u v w true why es t f g o made said was now passes answer = record {
  is = answer.is;
  text = received_both u.out v.out w.out t o.text said answer.text;
  files = λ h here. subst (λ (y : Files). SameLasting y h) (sym (after_all-append es o.effects f)) (lasting-both (all-alike o.effects (after_all es f) g (made.live f g was now)) (answer.files h here));
}
far-then u v w false why es t f g o made said was now passes part = record {
  tells = tells_after made passes o.effects part.tells;
  said = part_after u.out v.out w.out t o.text said part.said;
}

ending-if : (b : Bool) → ending_by None b ≡ ending_if b
ending-if true = refl
ending-if false = refl

told-to : (u : World) (f : Files) → Tells (Ok Push) u f → IsToldTo push_options u.tree u.scratch f
told-to u f told = record { files = told.files; scratch = λ has. told.scratch tt }

module _ (u v w : World) (set : SetView) (s : Stage) (save : List ℕ) (why : Why) (o : Files → Outcome) where
  -- the run is made whole, and what is done behind it is what the definition does
  pub far_comes : (fin : Passes u.tree v.tree) → ScratchPasses u.scratch v.scratch → SinkPasses u.out v.out → IsTidy u.tree v.tree → w.scratch ≡ v.scratch
      → ((f : Files) → Tells (Ok Push) u f → IsFar u.tree v.tree u.out v.out (set_run push_options set f))
      → ((f : Files) → Tells (Ok Push) u f → IsFar u.tree v.tree u.out v.out (set_run push_options set f) → on_saved set s (entries_of save) f ≡ behind (set_run push_options set f).effects (set_run push_options set f).said (o (set_run push_options set f).files))
      → Comes Push v w why o → Comes Push u w why (on_saved set s (entries_of save))
  far_comes tree scratch sink tidy same far is b = record {
    tree = passes_both tree b.tree;
    scratch = scratch_passes_both scratch b.scratch;
    sink = sink_passes_both sink b.sink;
    cause = cause_then (Ok Push) u v w why tree scratch sink b.cause;
    late = b.late;
    quiet = b.quiet;
    tidy = λ own. tidy_both u.tree v.tree w.tree tree tidy (b.tidy own);
    answers = λ f told.
        let x = far f told in
        let behind-told : Tells (Ok Push) v (set_run push_options set f).files = record { files = x.now; scratch = λ pushing. scratch.telling ∙ told.scratch pushing } in
        subst (λ (y : Outcome). Answers (is_own why) why f u w y) (sym (is f told x))
        (far-then u v w (is_own why) why (set_run push_options set f).effects (set_run push_options set f).said f (set_run push_options set f).files (o (set_run push_options set f).files) x.made x.said told.files x.now b.tree (b.answers (set_run push_options set f).files behind-told));
    images = λ f told.
        let x = far f told in
        let behind-told : Tells (Ok Push) v (set_run push_options set f).files = record { files = x.now; scratch = λ pushing. scratch.telling ∙ told.scratch pushing } in
        subst (λ (y : Outcome). LeavesPrefix u.tree w.tree y.effects) (sym (is f told x)) (leaves_after x.made b.tree (o (set_run push_options set f).files).effects (b.images (set_run push_options set f).files behind-told));
  }

-- what is undone of the files that the run tells is what the definition undoes, where the save is there
abbrev pub StillSaved : SetView → Stage → Files → Type 0
StillSaved set s f = IsSome (get (set_run push_options set f).files (save_name (suc s.applied)))

undone-far : (set : SetView) (s : Stage) (save : List ℕ) (f : Files) → IsSome (entries_of save) → StillSaved set s f → SameLasting (after_all (set_run push_options set f).effects f) (set_run push_options set f).files
    → undoing_by (save_name (suc s.applied)) (entries_of save) (after_all (set_run push_options set f).effects f) ≡ undone_by (save_name (suc s.applied)) (entries_of save) (set_run push_options set f).files
undone-far set s save f some there same =
    undoing-alike save (save_name (suc s.applied)) (entries_of save) (after_all (set_run push_options set f).effects f) (set_run push_options set f).files refl same
    ∙ sym (undone-there save (suc s.applied) (set_run push_options set f).files some there)

-- ---- an end
pub run_ended : {u v w : World} (set : SetView) (s : Stage) (save : List ℕ) (why : Why) (receipt : Receipt) → IsSome (entries_of save) → ((f : Files) → Tells (Ok Push) u f → IsFar u.tree v.tree u.out v.out (set_run push_options set f) → StillSaved set s f)
    → Finishes push_options set u.tree v.tree u.scratch v.scratch u.out v.out (Ok receipt) → w.scratch ≡ v.scratch
    → Comes Push v w why (λ g. closed (ending_if receipt.is_bad) Done s (undone_by (save_name (suc s.applied)) (entries_of save) g)) → Comes Push u w why (on_saved set s (entries_of save))
run_ended {u = u} {v = v} {w = w} set s save why receipt some there fin scratch b =
    far_comes u v w set s save why (λ g. closed (ending_if receipt.is_bad) Done s (undone_by (save_name (suc s.applied)) (entries_of save) g))
    fin.tree fin.scratch fin.sink fin.tidy scratch
    (λ f told. fin.whole f (told-to u f told))
    (λ f told far.
    let r = set_run push_options set f in
    let bad : receipt.is_bad ≡ r.is_bad = ap (λ (x : Receipt). x.is_bad) (fin.receipt f (told-to u f told)) in
    ap (λ (x : Option OpenFault). behind r.effects r.said (closed (ending_by x r.is_bad) (stop_why x) s (undoing_by (save_name (suc s.applied)) (entries_of save) (after_all r.effects f)))) (fin.going f (told-to u f told))
    ∙ ap (λ (e : Ending). behind r.effects r.said (closed e Done s (undoing_by (save_name (suc s.applied)) (entries_of save) (after_all r.effects f)))) (ending-if r.is_bad ∙ ap ending_if (sym bad))
    ∙ ap (λ (l : List Effect). behind r.effects r.said (closed (ending_if receipt.is_bad) Done s l)) (undone-far set s save f some (there f told far) (far.made.live f r.files told.files far.now)))
    b

-- ---- a file that isn't taken
pub run_cut : {u v w : World} (set : SetView) (s : Stage) (save : List ℕ) (why : Why) (fault : OpenFault) → IsSome (entries_of save) → ((f : Files) → Tells (Ok Push) u f → IsFar u.tree v.tree u.out v.out (set_run push_options set f) → StillSaved set s f)
    → Passes u.tree v.tree → ScratchPasses u.scratch v.scratch → SinkPasses u.out v.out → IsTidy u.tree v.tree → w.scratch ≡ v.scratch
    → ((f : Files) → Tells (Ok Push) u f → ((set_run push_options set f).stop ≡ Some fault) × IsFar u.tree v.tree u.out v.out (set_run push_options set f))
    → Comes Push v w why (λ g. closed endings.CutOff (of_run (of_open fault)) s (undone_by (save_name (suc s.applied)) (entries_of save) g)) → Comes Push u w why (on_saved set s (entries_of save))
run_cut {u = u} {v = v} {w = w} set s save why fault some there tree scratch sink tidy same halted b =
    far_comes u v w set s save why (λ g. closed endings.CutOff (of_run (of_open fault)) s (undone_by (save_name (suc s.applied)) (entries_of save) g))
    tree scratch sink tidy same
    (λ f told. (halted f told).1)
    (λ f told far.
    let r = set_run push_options set f in
    ap (λ (x : Option OpenFault). behind r.effects r.said (closed (ending_by x r.is_bad) (stop_why x) s (undoing_by (save_name (suc s.applied)) (entries_of save) (after_all r.effects f)))) (halted f told).0
    ∙ ap (λ (l : List Effect). behind r.effects r.said (closed endings.CutOff (of_run (of_open fault)) s l)) (undone-far set s save f some (there f told far) (far.made.live f r.files told.files far.now)))
    b

-- ---- the faults by their sorts
pub cut-is : (e : RunFault) → is_cut e ≡ true → HasCut (Err e) → IsCut e
cut-is runs.Tree is cut = absurd (false≢true is)
cut-is runs.Write is cut = absurd (false≢true is)
cut-is runs.Scratch is cut = absurd (false≢true is)
cut-is (runs.LongLine line size) is cut = cut
cut-is (runs.FileTooLong size) is cut = cut
cut-is (runs.Disagree want got) is cut = absurd (false≢true is)
cut-is runs.Memory is cut = absurd (false≢true is)

pub cut-quiet : {w : TreeView} (e : RunFault) → is_cut e ≡ true → QuietAfter {R = Receipt} (Err e) w → IsQuiet w
cut-quiet runs.Tree is quiet = absurd (false≢true is)
cut-quiet runs.Write is quiet = absurd (false≢true is)
cut-quiet runs.Scratch is quiet = absurd (false≢true is)
cut-quiet (runs.LongLine line size) is quiet = quiet
cut-quiet (runs.FileTooLong size) is quiet = quiet
cut-quiet (runs.Disagree want got) is quiet = absurd (false≢true is)
cut-quiet runs.Memory is quiet = absurd (false≢true is)

-- ---- another fault
module _ (u v w : World) (set : SetView) (s : Stage) (save : List ℕ) (e : RunFault) (still : IsStill e v w (of_run e)) (same : w.scratch ≡ v.scratch) where
  part-more : (f : Files) → IsPartOf u.tree v.tree u.out v.out (set_run push_options set f).effects (set_run push_options set f).said → (o : Outcome) → FirstPart u.tree w.tree u.out w.out ((set_run push_options set f).effects ++ o.effects) ((set_run push_options set f).said ++ o.text)
  part-more f part o =
      let r = set_run push_options set f in
      record {
        tells = tells_longer u.tree w.tree r.effects o.effects (r.effects ++ o.effects) refl (λ g h was now. part.tells g h was (sym still.tree.told ∙ now));
        said = part_longer u.out w.out r.said o.text (subst (λ (d : SinkView). ReceivesPart u.out d r.said) (sym still.out) part.said);
      }

  leaves-more : (f : Files) (o : Outcome) → Passes u.tree v.tree → LeavesPrefix u.tree v.tree (set_run push_options set f).effects → LeavesPrefix u.tree w.tree (behind (set_run push_options set f).effects (set_run push_options set f).said o).effects
  leaves-more f o passes leaves =
      let r = set_run push_options set f in
      since_longer u.tree w.tree r.effects o.effects (r.effects ++ o.effects) refl (λ g told c since. leaves g told c ((still.tree.since u.tree.moment c passes.later).0 since))

  pub run_still : is_own (of_run e) ≡ false → is_early (of_run e) ≡ false → HasCause (of_run e) (Ok Push) u w → Passes u.tree v.tree → ScratchPasses u.scratch v.scratch → SinkPasses u.out v.out
      → ((f : Files) → Tells (Ok Push) u f → IsPartOf u.tree v.tree u.out v.out (set_run push_options set f).effects (set_run push_options set f).said)
      → Comes Push u w (of_run e) (on_saved set s (entries_of save))
  run_still own late cause tree scratch sink part = record {
    tree = passes_both tree still.tree.passes;
    scratch = subst (λ (x : ScratchView). ScratchPasses u.scratch x) (sym same) scratch;
    sink = subst (λ (x : SinkView). SinkPasses u.out x) (sym still.out) sink;
    cause = cause;
    late = late;
    quiet = λ is. absurd (false≢true (sym own ∙ is));
    tidy = λ is. absurd (false≢true (sym own ∙ is));
    answers = λ f told. part-answers (is_own (of_run e)) (of_run e) f u w (on_saved set s (entries_of save) f) own (part-more f (part f told) (rest f));
    images = λ f told. leaves-more f (rest f) tree (part f told).leaves;
  }
    where
      rest : Files → Outcome
      rest f =
          let r = set_run push_options set f in
          closed (ending_by r.stop r.is_bad) (stop_why r.stop) s (undoing_by (save_name (suc s.applied)) (entries_of save) (after_all r.effects f))

still-as : {v w : World} {why : Why} (e : RunFault) → IsStill e v w why → IsStill e v w (of_run e)
still-as e still = record { is = refl; tree = still.tree; out = still.out }

-- ---- any of them
pub run_closes : {u v w : World} (set : SetView) (s : Stage) (save : List ℕ) (why : Why) (result : Result Receipt RunFault) → IsSome (entries_of save)
    → ((f : Files) → Tells (Ok Push) u f → IsFar u.tree v.tree u.out v.out (set_run push_options set f) → StillSaved set s f)
    → Finishes push_options set u.tree v.tree u.scratch v.scratch u.out v.out result → w.scratch ≡ v.scratch → Closes result v w why s (entries_of save) → Comes Push u w why (on_saved set s (entries_of save))
run_closes set s save why (Ok receipt) some there fin same closes = run_ended set s save why receipt some there fin same closes
run_closes {u = u} {v = v} {w = w} set s save why (Err runs.Tree) some there fin same still = comes_why why _ still.is
    (run_still u v w set s save runs.Tree (still-as runs.Tree still) same refl refl (rises_first u.tree v.tree w.tree fin.cause still.tree.passes) fin.tree fin.scratch fin.sink (λ f told. fin.cut f (told-to u f told)))
run_closes {u = u} {v = v} {w = w} set s save why (Err runs.Write) some there fin same still = comes_why why _ still.is
    (run_still u v w set s save runs.Write (still-as runs.Write still) same refl refl (subst (λ (x : SinkView). sink.Rises u.out x) (sym still.out) fin.cause) fin.tree fin.scratch fin.sink (λ f told. fin.cut f (told-to u f told)))
run_closes {u = u} {v = v} {w = w} set s save why (Err runs.Scratch) some there fin same still = comes_why why _ still.is
    (run_still u v w set s save runs.Scratch (still-as runs.Scratch still) same refl refl (tt, subst (λ (x : ScratchView). HasRisen u.scratch.faults x.faults) (sym same) fin.cause) fin.tree fin.scratch fin.sink (λ f told. fin.cut f (told-to u f told)))
run_closes {u = u} {v = v} {w = w} set s save why (Err (runs.LongLine line size)) some there fin same closes =
    run_cut {u = u} {v = v} {w = w} set s save why (open_fault.LongLine line size) some there fin.tree fin.scratch fin.sink fin.tidy same (λ f told. fin.cut f (told-to u f told)) closes
run_closes {u = u} {v = v} {w = w} set s save why (Err (runs.FileTooLong size)) some there fin same closes =
    run_cut {u = u} {v = v} {w = w} set s save why (open_fault.FileTooLong size) some there fin.tree fin.scratch fin.sink fin.tidy same (λ f told. fin.cut f (told-to u f told)) closes
run_closes {u = u} {v = v} {w = w} set s save why (Err (runs.Disagree want got)) some there fin same still = comes_why why _ still.is
    (run_still u v w set s save (runs.Disagree want got) (still-as (runs.Disagree want got) still) same refl refl (fin.cause.0, λ f told. fin.cause.1 f (told-to u f told)) fin.tree fin.scratch fin.sink (λ f told. fin.cut f (told-to u f told)))
run_closes {u = u} {v = v} {w = w} set s save why (Err runs.Memory) some there fin same still = comes_why why _ still.is
    (run_still u v w set s save runs.Memory (still-as runs.Memory still) same refl refl tt fin.tree fin.scratch fin.sink (λ f told. fin.cut f (told-to u f told)))

-- what a file that isn't taken says
long-line : (size : ℕ) → push_options.buffer - 4 < size → 65532 < size
unfolding push_options
long-line size less = omega (arith, less)

pub has_cut : {u v : World} (set : SetView) (result : Result Receipt RunFault) → Finishes push_options set u.tree v.tree u.scratch v.scratch u.out v.out result → HasCut result
has_cut set (Ok receipt) fin = tt
has_cut set (Err runs.Tree) fin = tt
has_cut set (Err runs.Write) fin = tt
has_cut set (Err runs.Scratch) fin = tt
has_cut set (Err (runs.LongLine line size)) fin = long-line size fin.cause
has_cut set (Err (runs.FileTooLong size)) fin = omega (arith, fin.cause)
has_cut set (Err (runs.Disagree want got)) fin = tt
has_cut set (Err runs.Memory) fin = tt

-- the run leaves the save where it is
pub still_saved : (u v : World) (set : SetView) (s : Stage) → CanPush set → IsThere u.tree (save_name (suc s.applied)) → (f : Files) → u.tree.told ≡ Some f → IsFar u.tree v.tree u.out v.out (set_run push_options set f) → StillSaved set s f
still_saved u v set s can there f told far =
    let r = set_run push_options set f in
    let name : List ℕ = save_name (suc s.applied) in
    let names : List (List ℕ) = names_of (targets_for push_options (plain_patches set)) in
    let beside : SameBeside names f (after_all r.effects f) = every-last (SameBeside names f) r.effects f (every-beside names f r.effects f (can.patch.within f) (beside-same names f)) in
    let kept : get r.files name ≡ get f name =
    (far.made.live f r.files told far.now).at name (save-lasting (suc s.applied))
    ∙ beside.at name (save-lasting (suc s.applied)) (own_apart names name can.saved (save-own (suc s.applied))) in
    subst (λ (o : Option (List ℕ)). IsSome o) (sym kept) (there f told)
