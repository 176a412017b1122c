-- The run as a fold: one file patch more, and what a longer run adds to a shorter one.
use Rattle.std.proofs.Common.{◌≡◌, ⊎_elim, inl, inr, ℕ, List, [], ◌∷◌, ◌++◌, Option, Some, None, refl, sym, ◌∙◌, ap, subst, arith, append_assoc}
use Rattle.std.proofs.lemmas.List.{append-nil}
use Rattle.outside.specs.Files.{Files}
use Rattle.outside.specs.TreeView.{TreeView, Passes}
use Rattle.outside.specs.SinkView.{SinkView, ReceivesPart}
use Rattle.outside.specs.Quiet.{Effect, HasMade, TellsPrefix, LeavesPrefix}
use Rattle.outside.proofs.Effects.{made_tells_all, since_longer, tells_longer}
use Rattle.outside.proofs.Writing.{received_part, received_both, part_longer, part_after}
use Rattle.hunk_core.specs.declared.Verdict.{Verdict}
use Rattle.line_store.specs.declared.fault.OpenFault.{OpenFault}
use Rattle.line_store.specs.declared.fault.OpenFault.TheVariants as open_fault
use Rattle.patch_options.specs.PlainJob.{PlainOptions}
use Rattle.read_file_patch.specs.declared.derived.Target.{Target}
use Rattle.apply_task.specs.declared.fault.RunFault.{RunFault}
use Rattle.apply_task.specs.declared.fault.RunFault.TheVariants.{Tree, Write, Scratch, LongLine, FileTooLong, Disagree, Memory}
use Rattle.patch_run.specs.declared.one_patch.Done.{Done}
use Rattle.patch_run.specs.OnePatch.{Item, PlainContext, Story, Ending, ended, stopped, ending}
use Rattle.patch_run.specs.Run.{Run, begun, turn_of, with_story, with_stop, with_ending, if_going, with_item, run_on, run_of}
use Rattle.apply_task.specs.Making.{IsPart, UnlessFailed}
use Rattle.patch_run.specs.Doing.{IsPartOf, IsWholeOf, IsDone, IsStopped, IsBroken, IsFar, IsHalted, IsCutOff, IsOrdered, IsAmid, IsCutIn, IsCutAt, effects_in, said_of}
use Rattle.apply_task.proofs.EffectLists.{made_both, leaves_after, tells_after}

run-both : (o : PlainOptions) (output : Option Target) (xs ys : List Item) (r : Run) → run_on o output (xs ++ ys) r ≡ run_on o output ys (run_on o output xs r)
unfolding run_on
run-both o output [] ys r = refl
run-both o output (i ∷ xs) ys r = run-both o output xs ys (with_item o output r i)

run-push : (o : PlainOptions) (output : Option Target) (xs : List Item) (i : Item) (r : Run) → run_on o output (xs ++ i ∷ []) r ≡ with_item o output (run_on o output xs r) i
unfolding run_on
run-push o output xs i r = run-both o output xs (i ∷ []) r

-- what a run goes on by
pub record More (r s : Run) : Type 0 where
  pub effects : List Effect
  pub said : List ℕ
  pub made : s.effects ≡ r.effects ++ effects
  pub told : s.said ≡ r.said ++ said

more_none : (r : Run) → More r r
more_none r = record { effects = []; said = []; made = sym (append-nil r.effects); told = sym (append-nil r.said) }

more_both : {r s t : Run} → More r s → More s t → More r t
more_both {r = r} m n = record {
  effects = m.effects ++ n.effects;
  said = m.said ++ n.said;
  made = n.made ∙ ap (λ (l : List Effect). l ++ n.effects) m.made ∙ append_assoc r.effects m.effects n.effects;
  told = n.told ∙ ap (λ (l : List ℕ). l ++ n.said) m.told ∙ append_assoc r.said m.said n.said;
}

more_ending : (t : PlainContext) (r : Run) (e : Ending) → More r (with_ending t r e)
more_ending t r (ended s) = record { effects = s.effects; said = s.said; made = refl; told = refl }
more_ending t r (stopped said fault) = record { effects = []; said = said; made = sym (append-nil r.effects); told = refl }

more_going : (stop : Option OpenFault) (r next : Run) → More r next → More r (if_going stop r next)
more_going None r next m = m
more_going (Some fault) r next m = more_none r

pub more_on : (o : PlainOptions) (output : Option Target) (xs : List Item) (r : Run) → More r (run_on o output xs r)
unfolding run_on
more_on o output [] r = more_none r
more_on o output (i ∷ xs) r =
    more_both (more_going r.stop r _ (more_ending (turn_of o output r i) r (ending (turn_of o output r i) r.files))) (more_on o output xs (with_item o output r i))

-- a stopped run does no more
stays_stopped : (o : PlainOptions) (output : Option Target) (xs : List Item) (r : Run) (fault : OpenFault) → r.stop ≡ Some fault → run_on o output xs r ≡ r
unfolding run_on
stays_stopped o output [] r fault stop = refl
stays_stopped o output (i ∷ xs) r fault stop =
    let same : with_item o output r i ≡ r = ap (λ x. if_going x r (with_ending (turn_of o output r i) r (ending (turn_of o output r i) r.files))) stop in
    ap (λ (s : Run). run_on o output xs s) same ∙ stays_stopped o output xs r fault stop

part_longer_run : {u w : TreeView} {a b : SinkView} (r s : Run) → More r s → IsPartOf u w a b r.effects r.said → IsPartOf u w a b s.effects s.said
part_longer_run {u = u} {w = w} {a = a} {b = b} r s m part = record {
  tells = tells_longer u w r.effects m.effects s.effects m.made part.tells;
  leaves = since_longer u w r.effects m.effects s.effects m.made part.leaves;
  said = subst (λ (l : List ℕ). ReceivesPart a b l) (sym m.told) (part_longer a b r.said m.said part.said);
}

-- one file patch more
pub far_on : {u v w : TreeView} {a b c : SinkView} {done : Done} {verdicts : List Verdict} (t : PlainContext) (r : Run) (s : Story) → IsFar u v a b r → IsDone v w b c done verdicts r.files s → IsFar u w a c (with_story t r s)
far_on {a = a} {b = b} {c = c} t r s far done = record {
  made = made_both far.made done.whole.made;
  said = received_both a b c r.said s.said far.said done.whole.said;
  now = done.whole.now;
}

-- a part of it
part_on : {u v w : TreeView} {a b c : SinkView} (t : PlainContext) (r : Run) (e : Ending) → IsFar u v a b r → Passes v w → IsPartOf v w b c (effects_in e) (said_of e) → IsPartOf u w a c (with_ending t r e).effects (with_ending t r e).said
part_on {a = a} {b = b} {c = c} t r (ended s) far passes part = record {
  tells = tells_after far.made passes s.effects part.tells;
  leaves = leaves_after far.made passes s.effects part.leaves;
  said = part_after a b c r.said s.said far.said part.said;
}
part_on {u = u} {w = w} {a = a} {b = b} {c = c} t r (stopped said fault) far passes part = record {
  tells = subst (λ (l : List Effect). TellsPrefix u w l) (append-nil r.effects) (tells_after far.made passes [] part.tells);
  leaves = subst (λ (l : List Effect). LeavesPrefix u w l) (append-nil r.effects) (leaves_after far.made passes [] part.leaves);
  said = part_after a b c r.said said far.said part.said;
}

-- all that is said of a file that isn't taken
far_stops : {u v w : TreeView} {a b c : SinkView} (r : Run) (said : List ℕ) (fault : OpenFault) → IsFar u v a b r → IsWholeOf v w b c [] said r.files → IsFar u w a c (with_stop r said fault)
far_stops {u = u} {w = w} {a = a} {b = b} {c = c} r said fault far whole = record {
  made = subst (λ (l : List Effect). HasMade u w l) (append-nil r.effects) (made_both far.made whole.made);
  said = received_both a b c r.said said far.said whole.said;
  now = whole.now;
}

-- where a run was cut off
stopped_part : {v w : TreeView} {b c : SinkView} (files : Files) (e : Ending) → IsWholeOf v w b c [] (said_of e) files → IsPartOf v w b c (effects_in e) (said_of e)
stopped_part {v = v} {w = w} {b = b} {c = c} files e whole = record {
  tells = tells_longer v w [] (effects_in e) (effects_in e) refl (made_tells_all v w [] whole.made);
  leaves = since_longer v w [] (effects_in e) (effects_in e) refl whole.made.since;
  said = received_part b c (said_of e) whole.said;
}

broken_part : {v w : TreeView} {b c : SinkView} (fault : RunFault) (files : Files) (e : Ending) → IsBroken fault v w b c files e → IsPartOf v w b c (effects_in e) (said_of e)
broken_part Tree files e broken = broken
broken_part Write files e broken = broken
broken_part Scratch files e broken = broken
broken_part (LongLine line count) files e broken = stopped_part files e broken.1
broken_part (FileTooLong count) files e broken = stopped_part files e broken.1
broken_part (Disagree want got) files e broken = broken
broken_part Memory files e broken = broken

amid : {v w : TreeView} (files : Files) (es : List Effect) → v.told ≡ Some files → Passes v w → IsPart v w es → IsAmid w files es
amid {w = w} files es told passes part = record { now = λ g now. part.tells files g told now; left = λ c left. part.leaves files told c (w.moment, passes.later, omega arith, left) }

cut_in : {u v w : TreeView} {a b c : SinkView} (fault : RunFault) (r : Run) (e : Ending) → IsFar u v a b r → Passes v w → IsBroken fault v w b c r.files e → IsOrdered fault v w b c (said_of e) → UnlessFailed fault (w.told ≡ Some r.files) → IsCutIn fault w a c r e
cut_in {a = a} {b = b} {c = c} fault r e far passes broken order kept =
    let part = broken_part fault r.files e broken in
    record {
      done = amid r.files (effects_in e) far.now passes (record { tells = part.tells; leaves = part.leaves });
      said = λ bytes told. part.said (bytes ++ r.said) (far.said bytes told);
      order = ⊎_elim (λ none. inl (amid r.files [] far.now passes none)) (λ all. inr (all.0, received_both a b c r.said (said_of e) far.said all.1)) order;
      exact = kept;
    }

-- one file patch more, as a run that goes on takes it
next_item : (o : PlainOptions) (output : Option Target) (r : Run) (i : Item) → r.stop ≡ None → with_item o output r i ≡ with_ending (turn_of o output r i) r (ending (turn_of o output r i) r.files)
next_item o output r i going = ap (λ x. if_going x r (with_ending (turn_of o output r i) r (ending (turn_of o output r i) r.files))) going

module _ (o : PlainOptions) (output : Option Target) (xs : List Item) (i : Item) (t : PlainContext) (f : Files) (going : (run_of o output xs f).stop ≡ None) (same : turn_of o output (run_of o output xs f) i ≡ t) where
  pub run-next : run_of o output (xs ++ i ∷ []) f ≡ with_ending t (run_of o output xs f) (ending t (run_of o output xs f).files)
  run-next =
      run-push o output xs i (begun f)
      ∙ next_item o output (run_of o output xs f) i going
      ∙ ap (λ (x : PlainContext). with_ending x (run_of o output xs f) (ending x (run_of o output xs f).files)) same

  pub whole-next : (ys : List Item) → run_of o output (xs ++ i ∷ ys) f ≡ run_on o output ys (with_ending t (run_of o output xs f) (ending t (run_of o output xs f).files))
  whole-next ys =
      ap (λ (l : List Item). run_of o output l f) (sym (append_assoc xs (i ∷ []) ys))
      ∙ run-both o output (xs ++ i ∷ []) ys (begun f)
      ∙ ap (λ (s : Run). run_on o output ys s) run-next

  module _ (u v w : TreeView) (a b c : SinkView) (ys : List Item) (far : IsFar u v a b (run_of o output xs f)) (passes : Passes v w) where
    cut_part : IsPartOf v w b c (effects_in (ending t (run_of o output xs f).files)) (said_of (ending t (run_of o output xs f).files)) → IsPartOf u w a c (run_of o output (xs ++ i ∷ ys) f).effects (run_of o output (xs ++ i ∷ ys) f).said
    cut_part part =
        let r = run_of o output xs f in
        let s = with_ending t r (ending t r.files) in
        subst (λ (x : Run). IsPartOf u w a c x.effects x.said) (sym (whole-next ys))
        (part_longer_run s (run_on o output ys s) (more_on o output ys s) (part_on t r (ending t r.files) far passes part))

    cut_stop : (fault : OpenFault) → IsStopped v w b c (run_of o output xs f).files (ending t (run_of o output xs f).files) fault → IsHalted u w a c (run_of o output (xs ++ i ∷ ys) f) fault
    cut_stop fault stops =
        let r = run_of o output xs f in
        let said = said_of (ending t r.files) in
        let s = with_stop r said fault in
        let is : run_of o output (xs ++ i ∷ ys) f ≡ s =
        whole-next ys ∙ ap (λ (e : Ending). run_on o output ys (with_ending t r e)) stops.0 ∙ stays_stopped o output ys s fault refl in
        subst (λ (x : Run). IsHalted u w a c x fault) (sym is) (refl, far_stops r said fault far stops.1)

    pub cut_here : (e : RunFault) → IsBroken e v w b c (run_of o output xs f).files (ending t (run_of o output xs f).files) → IsOrdered e v w b c (said_of (ending t (run_of o output xs f).files)) → UnlessFailed e (w.told ≡ Some (run_of o output xs f).files)
        → IsCutAt e w a c o output (xs ++ i ∷ ys) f
    cut_here e broken order kept =
        let r = run_of o output xs f in
        record {
          front = xs;
          item = i;
          behind = ys;
          all = refl;
          going = going;
          cut = subst (λ (x : PlainContext). IsCutIn e w a c r (ending x r.files)) (sym same) (cut_in e r (ending t r.files) far passes broken order kept);
        }

    -- a fault within a file patch
    pub cut_off : (e : RunFault) → IsBroken e v w b c (run_of o output xs f).files (ending t (run_of o output xs f).files) → IsCutOff e u w a c (run_of o output (xs ++ i ∷ ys) f)
    cut_off Tree broken = cut_part broken
    cut_off Write broken = cut_part broken
    cut_off Scratch broken = cut_part broken
    cut_off (LongLine line count) broken = cut_stop (open_fault.LongLine line count) broken
    cut_off (FileTooLong count) broken = cut_stop (open_fault.FileTooLong count) broken
    cut_off (Disagree want got) broken = cut_part broken
    cut_off Memory broken = cut_part broken

-- what a crash leaves of a run that was cut off
pub cut_moments : (u w : TreeView) (a c : SinkView) (e : RunFault) (r : Run) → IsCutOff e u w a c r → LeavesPrefix u w r.effects
cut_moments u w a c Tree r cut = cut.leaves
cut_moments u w a c Write r cut = cut.leaves
cut_moments u w a c Scratch r cut = cut.leaves
cut_moments u w a c (LongLine line count) r cut = cut.1.made.since
cut_moments u w a c (FileTooLong count) r cut = cut.1.made.since
cut_moments u w a c (Disagree want got) r cut = cut.leaves
cut_moments u w a c Memory r cut = cut.leaves
