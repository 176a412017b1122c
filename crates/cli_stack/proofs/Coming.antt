-- How the parts of a command go on from one another, and what a run promises of them.
use Rattle.std.proofs.Common.{◌≡◌, ◌⊎◌, ℕ, List, [], ◌++◌, Bool, true, false, Some, None, Result, Ok, Err, refl, sym, ◌∙◌, ap, subst, arith}
use Rattle.std.proofs.lemmas.Bool.{false≢true}
use Rattle.std.proofs.lemmas.List.{append-nil}
use Rattle.std.proofs.lemmas.Option.{same_Some}
use Rattle.std.specs.FinMap.{get}
use Rattle.outside.specs.Files.{Files, SameLasting}
use Rattle.outside.specs.TreeView.{TreeView, Passes, passes_both, told_on}
use Rattle.outside.specs.SinkView.{SinkView, SinkPasses, sink_passes_none, sink_passes_both}
use Rattle.outside.specs.ScratchView.{ScratchView, ScratchPasses, scratch_passes_none}
use Rattle.outside.specs.Calls.{IsUntouched}
use Rattle.outside.specs.Quiet.{IsQuiet, Effect, after_all, LeavesPrefix}
use Rattle.outside.proofs.Effects.{made_tells_all, since_longer, tells_longer}
use Rattle.series_stack.proofs.Steps.{untouched_made}
use Rattle.stack_state.proofs.Stepping.{steps_untouched}
use Rattle.outside.proofs.Views.{rises_then}
use Rattle.outside.proofs.Writing.{received_both, received_none, received_part, part_after, part_longer}
use Rattle.series_stack.proofs.EffectLists.{after_all-append, leaves_after, tells_after}
use Rattle.apply_task.specs.declared.fault.RunFault.{RunFault}
use Rattle.apply_task.specs.declared.fault.RunFault.TheVariants as runs
use Rattle.apply_task.specs.Making.{IsTidy}
use Rattle.apply_task.proofs.Tidy.{tidy_both}
use Rattle.patch_options.specs.declared.options.WordFault.{WordFault}
use Rattle.cli_tool_words.specs.declared.jobs.StackOp.{StackOp}
use Rattle.stack_state.specs.Steps.{IsWhole, HasStepCause, Steps}
use Rattle.cli_run_answers.specs.declared.why.Why.{Why}
use Rattle.cli_run_answers.specs.declared.why.Why.TheVariants.{Done, Rejected, Usage, Malformed, Garbage, EdReverse, OutMany, Reserved, NoPatchFile, TooLong, LongLine, FileTooLong, BadPattern, NoContext, Unfit, BadState, StackEnd, StackName, ReadFault, WriteFault, TreeFault, ScratchFault, Disagree, Memory}
use Rattle.cli_run_answers.specs.Answers.{is_own, of_run, is_early}
use Rattle.cli_run_answers.specs.Moments.{FirstPart}
use Rattle.cli_run_answers.specs.Worlds.{World, world}
use Rattle.cli_run_answers.specs.Outcomes.{Outcome}
use Rattle.cli_stack.specs.Command.{behind}
use Rattle.cli_stack.specs.Worlds.{Tells}
use Rattle.cli_stack.specs.Causes.{HasCause}
use Rattle.cli_stack.specs.Carries.{Answers}
use Rattle.cli_stack.specs.Comes.{Comes}
use Rattle.cli_stack.specs.Stages.{ended, why_by}

-- ---- what is told on
tells-on : {job : Result StackOp WordFault} {u v : World} (f : Files) → Passes u.tree v.tree → ScratchPasses u.scratch v.scratch → Tells job u f → (g : Files) × Tells job v g
tells-on f passes scratch told =
    let now = told_on f passes told.files in
    (now.0, record { files = now.1; scratch = λ pushing. scratch.telling ∙ told.scratch pushing })

-- ---- causes, seen from before
pub cause_then : (job : Result StackOp WordFault) (u v w : World) (why : Why) → Passes u.tree v.tree → ScratchPasses u.scratch v.scratch → SinkPasses u.out v.out → HasCause why job v w → HasCause why job u w
cause_then job u v w Done p s o cause = cause
cause_then job u v w Rejected p s o cause = cause
cause_then job u v w Usage p s o cause = cause
cause_then job u v w NoPatchFile p s o cause = cause
cause_then job u v w TooLong p s o cause = cause
cause_then job u v w (Malformed line kind) p s o cause = cause
cause_then job u v w Garbage p s o cause = cause
cause_then job u v w (EdReverse line) p s o cause = cause
cause_then job u v w (OutMany count) p s o cause = cause
cause_then job u v w (Reserved line) p s o cause = cause
cause_then job u v w (LongLine line size) p s o cause = cause
cause_then job u v w (FileTooLong size) p s o cause = cause
cause_then job u v w (BadState file) p s o cause = cause
cause_then job u v w (StackEnd n) p s o cause = cause
cause_then job u v w (StackName line) p s o cause = cause
cause_then job u v w WriteFault p s o cause = λ small. omega (arith, cause small, o.counts)
cause_then job u v w TreeFault p s o cause = rises_then u.tree v.tree w.tree p cause
cause_then job u v w ScratchFault p s o cause = (cause.0, λ small. omega (arith, cause.1 small, s.counts))
cause_then job u v w (Disagree want got) p s o cause = (cause.0, λ f told. let now = tells-on f p s told in cause.1 now.0 now.1)
cause_then job u v w Memory p s o cause = tt
cause_then job u v w BadPattern p s o cause = absurd cause
cause_then job u v w (NoContext line) p s o cause = absurd cause
cause_then job u v w (Unfit line) p s o cause = absurd cause
cause_then job u v w ReadFault p s o cause = absurd cause

-- ---- steps
scratch-same : {a b : ScratchView} → b ≡ a → ScratchPasses a b
scratch-same {a = a} same = subst (λ (x : ScratchView). ScratchPasses a x) (sym same) (scratch_passes_none a)

steps-tidy : {R : Type 0} {u w : TreeView} {c d : SinkView} {es : Files → List Effect} {t : Files → List ℕ} (x : R) → Steps u w c d (Ok x) es t → IsTidy u w
steps-tidy {es = es} x steps f g told now q temp =
    let whole = steps.ok f told in
    subst (λ (y : Files). (get y q ≡ None) ⊎ (get y q ≡ get f q)) (same_Some _ _ (sym whole.told ∙ now)) (whole.temps q temp)

answer-then : (u v w : World) (b : Bool) (why : Why) (es : List Effect) (t : List ℕ) (f : Files) (o : Outcome) → IsWhole u.tree v.tree u.out v.out es t f → Passes v.tree w.tree
    → Answers b why (after_all es f) v w o → Answers b why f u w (behind es t o)
answer-then u v w true why es t f o first passes answer = record {
  is = answer.is;
  text = received_both u.out v.out w.out t o.text first.said answer.text;
  files = λ g now. subst (λ (y : Files). SameLasting y g) (sym (after_all-append es o.effects f)) (answer.files g now);
}
answer-then u v w false why es t f o first passes part = record {
  tells = tells_after first.made passes o.effects part.tells;
  said = part_after u.out v.out w.out t o.text first.said part.said;
}

-- steps made whole, and what comes behind them
pub comes_then : {R : Type 0} {op : StackOp} {u v w : World} {es : Files → List Effect} {t : Files → List ℕ} (x : R) (why : Why) (o : Files → Outcome)
    → Steps u.tree v.tree u.out v.out (Ok x) es t → v.scratch ≡ u.scratch → Comes op v w why o → Comes op u w why (λ f. behind (es f) (t f) (o (after_all (es f) f)))
comes_then {op = op} {u = u} {v = v} {w = w} {es = es} {t = t} x why o a scratch b = record {
  tree = passes_both a.tree b.tree;
  scratch = subst (λ (y : ScratchView). ScratchPasses y w.scratch) scratch b.scratch;
  sink = sink_passes_both a.sink b.sink;
  cause = cause_then (Ok op) u v w why a.tree (scratch-same scratch) a.sink b.cause;
  late = b.late;
  quiet = b.quiet;
  tidy = λ own. tidy_both u.tree v.tree w.tree a.tree (steps-tidy x a) (b.tidy own);
  answers = λ f told.
      let first = a.ok f told.files in
      answer-then u v w (is_own why) why (es f) (t f) f (o (after_all (es f) f)) first b.tree (b.answers (after_all (es f) f) (record { files = first.told; scratch = λ pushing. (scratch-same scratch).telling ∙ told.scratch pushing }));
  images = λ f told.
      let first = a.ok f told.files in
      leaves_after first.made b.tree (o (after_all (es f) f)).effects (b.images (after_all (es f) f) (record { files = first.told; scratch = λ pushing. (scratch-same scratch).telling ∙ told.scratch pushing }));
}

-- steps that a fault breaks off
own-fault : (e : RunFault) (u w : TreeView) (c d : SinkView) → HasStepCause e u w c d → (is_own (of_run e) ≡ false) × (is_early (of_run e) ≡ false)
own-fault runs.Tree u w c d cause = (refl, refl)
own-fault runs.Write u w c d cause = (refl, refl)
own-fault runs.Scratch u w c d cause = absurd cause
own-fault (runs.LongLine line size) u w c d cause = absurd cause
own-fault (runs.FileTooLong size) u w c d cause = absurd cause
own-fault (runs.Disagree want got) u w c d cause = absurd cause
own-fault runs.Memory u w c d cause = (refl, refl)

cause-fault : (op : StackOp) (u w : World) (e : RunFault) → HasStepCause e u.tree w.tree u.out w.out → HasCause (of_run e) (Ok op) u w
cause-fault op u w runs.Tree cause = cause
cause-fault op u w runs.Write cause = cause
cause-fault op u w runs.Scratch cause = absurd cause
cause-fault op u w (runs.LongLine line size) cause = absurd cause
cause-fault op u w (runs.FileTooLong size) cause = absurd cause
cause-fault op u w (runs.Disagree want got) cause = absurd cause
cause-fault op u w runs.Memory cause = tt

pub part-answers : (b : Bool) (why : Why) (f : Files) (u w : World) (o : Outcome) → b ≡ false → FirstPart u.tree w.tree u.out w.out o.effects o.text → Answers b why f u w o
part-answers true why f u w o not part = absurd (false≢true (sym not))
part-answers false why f u w o not part = part

pub comes_stop : {R : Type 0} {op : StackOp} {u w : World} {es : Files → List Effect} {t : Files → List ℕ} (e : RunFault) (o : Files → Outcome)
    → Steps {R = R} u.tree w.tree u.out w.out (Err e) es t → w.scratch ≡ u.scratch → Comes op u w (of_run e) (λ f. behind (es f) (t f) (o f))
comes_stop {op = op} {u = u} {w = w} {es = es} {t = t} e o a scratch =
    let not = own-fault e u.tree w.tree u.out w.out a.cause in
    record {
      tree = a.tree;
      scratch = scratch-same scratch;
      sink = a.sink;
      cause = cause-fault op u w e a.cause;
      late = not.1;
      quiet = λ own. absurd (false≢true (sym not.0 ∙ own));
      tidy = λ own. absurd (false≢true (sym not.0 ∙ own));
      answers = λ f told.
          let part = a.err f told.files in
          part-answers (is_own (of_run e)) (of_run e) f u w (behind (es f) (t f) (o f)) not.0 (record {
            tells = tells_longer u.tree w.tree (es f) (o f).effects (es f ++ (o f).effects) refl part.tells;
            said = part_longer u.out w.out (t f) (o f).text part.said;
          });
      images = λ f told. since_longer u.tree w.tree (es f) (o f).effects (es f ++ (o f).effects) refl (a.err f told.files).leaves;
    }

-- steps with which the command ends
whole-answers : (b : Bool) (why : Why) (u w : World) (f : Files) (es : List Effect) (t : List ℕ) → b ≡ true → u.tree.told ≡ Some f → IsWhole u.tree w.tree u.out w.out es t f → Answers b why f u w (ended why es t)
whole-answers true why u w f es t is told whole = record { is = refl; text = whole.said; files = λ g now. whole.made.live f g told now }
whole-answers false why u w f es t is told whole = absurd (false≢true is)

pub comes_end : {R : Type 0} {op : StackOp} {u w : World} {es : Files → List Effect} {t : Files → List ℕ} (x : R) (why : Why) → is_own why ≡ true → is_early why ≡ false → HasCause why (Ok op) u w
    → Steps u.tree w.tree u.out w.out (Ok x) es t → w.scratch ≡ u.scratch → Comes op u w why (λ f. ended why (es f) (t f))
comes_end {u = u} {w = w} {es = es} {t = t} x why own late cause a scratch = record {
  tree = a.tree;
  scratch = scratch-same scratch;
  sink = a.sink;
  cause = cause;
  late = late;
  quiet = λ is. a.quiet;
  tidy = λ is. steps-tidy x a;
  answers = λ f told. whole-answers (is_own why) why u w f (es f) (t f) own told.files (a.ok f told.files);
  images = λ f told. (a.ok f told.files).made.since;
}

-- the same outcome in other words
pub comes_is : {op : StackOp} {u w : World} {why : Why} {o : Files → Outcome} (same : Files → Outcome) → ((f : Files) → u.tree.told ≡ Some f → same f ≡ o f) → Comes op u w why o → Comes op u w why same
comes_is {u = u} {w = w} {why = why} {o = o} same is a = record {
  tree = a.tree;
  scratch = a.scratch;
  sink = a.sink;
  cause = a.cause;
  late = a.late;
  quiet = a.quiet;
  tidy = a.tidy;
  answers = λ f told. subst (λ (x : Outcome). Answers (is_own why) why f u w x) (sym (is f told.files)) (a.answers f told);
  images = λ f told. subst (λ (x : Outcome). LeavesPrefix u.tree w.tree x.effects) (sym (is f told.files)) (a.images f told);
}

pub comes_why : {op : StackOp} {u w : World} {o : Files → Outcome} (y why : Why) → y ≡ why → Comes op u w why o → Comes op u w y o
comes_why {op = op} {u = u} {w = w} {o = o} y why is a = subst (λ (x : Why). Comes op u w x o) (sym is) a

-- steps with which the command ends, or that a fault breaks off
pub comes_by : {op : StackOp} {u w : World} {es : Files → List Effect} {t : Files → List ℕ} (r : Result (Unit {0}) RunFault) (why : Why) → is_own why ≡ true → is_early why ≡ false → HasCause why (Ok op) u w
    → Steps u.tree w.tree u.out w.out r es t → w.scratch ≡ u.scratch → Comes op u w (why_by why r) (λ f. ended why (es f) (t f))
comes_by (Ok x) why own late cause a scratch = comes_end x why own late cause a scratch
comes_by {es = es} {t = t} (Err e) why own late cause a scratch =
    comes_is (λ f. ended why (es f) (t f))
    (λ f told. ap (λ (l : List ℕ). ended why (es f) l) (sym (append-nil (t f))) ∙ ap (λ (l : List Effect). ended why l (t f ++ [])) (sym (append-nil (es f))))
    (comes_stop e (λ f. ended why [] []) a scratch)

-- ---- calls that only look
behind-none : (o : Outcome) → o ≡ behind [] [] o
behind-none o = refl

pub comes_untouched : {op : StackOp} {u v : TreeView} {w : World} {a : ScratchView} {c : SinkView} {why : Why} {o : Files → Outcome} → IsUntouched u v → IsQuiet u → Comes op (world v a c) w why o → Comes op (world u a c) w why o
comes_untouched {op = op} {u = u} {v = v} {w = w} {a = a} {c = c} {why = why} {o = o} same quiet b = comes_is o (λ f told. behind-none (o f)) (comes_then {u = world u a c} {v = world v a c} {w = w} (tt {0}) why o (steps_untouched c (tt {0}) same quiet) refl b)

-- nothing is done before a fault
pub comes_nothing : {op : StackOp} {u w : TreeView} {a : ScratchView} {c : SinkView} (why : Why) (o : Files → Outcome) → IsUntouched u w → IsQuiet u → is_own why ≡ false → is_early why ≡ false → HasCause why (Ok op) (world u a c) (world w a c)
    → Comes op (world u a c) (world w a c) why o
comes_nothing {op = op} {u = u} {w = w} {a = a} {c = c} why o same quiet own late cause = record {
  tree = same.passes;
  scratch = scratch_passes_none a;
  sink = sink_passes_none c;
  cause = cause;
  late = late;
  quiet = λ is. absurd (false≢true (sym own ∙ is));
  tidy = λ is. absurd (false≢true (sym own ∙ is));
  answers = λ f told. part-answers (is_own why) why f (world u a c) (world w a c) (o f) own (record {
    tells = tells_longer u w [] (o f).effects (o f).effects refl (made_tells_all u w [] (untouched_made same quiet));
    said = part_longer c c [] (o f).text (received_part c c [] (received_none c));
  });
  images = λ f told. since_longer u w [] (o f).effects (o f).effects refl (untouched_made same quiet).since;
}
