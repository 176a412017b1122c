-- How steps go on from one another.
use Rattle.std.proofs.Common.{◌≡◌, inl, inr, ⊎_elim, ℕ, suc, ◌+◌, List, [], ◌∷◌, ◌++◌, false, None, Some, Result, Ok, Err, refl, sym, ◌∙◌, ap, subst, arith}
use Rattle.std.proofs.lemmas.List.{append-nil}
use Rattle.std.specs.FinMap.{get, insert}
use Rattle.outside.specs.Files.{Files, is_temp, temp_of}
use Rattle.outside.specs.TreeView.{TreeView, Passes, passes_none, passes_both}
use Rattle.outside.specs.TreeView as tree
use Rattle.outside.specs.SinkView.{SinkView, SinkPasses, sink_passes_none, sink_passes_both, Writes}
use Rattle.outside.specs.SinkView as sink
use Rattle.outside.specs.Calls.{Becomes, IsUntouched}
use Rattle.outside.specs.Quiet.{IsQuiet, Effect, after, after_all, MakesEffect}
use Rattle.outside.specs.Quiet.Effect.{Put, Remove}
use Rattle.outside.proofs.Effects.{made_none, made_more, made_since, made_tells, made_tells_all, since_longer, tells_longer}
use Rattle.outside.proofs.Names.{equal_or_not, get-gone, get-gone_other, get-put_other, apart}
use Rattle.outside.proofs.Views.{rises_then, untouched_quiet}
use Rattle.series_stack.proofs.Steps.{untouched_made}
use Rattle.outside.proofs.Writing.{received_both, received_none, received_part, part_after, part_longer}
use Rattle.series_stack.proofs.EffectLists.{after_all-append, leaves_after, tells_after, made_both}
use Rattle.apply_task.specs.declared.fault.RunFault.{RunFault}
use Rattle.apply_task.specs.declared.fault.RunFault.TheVariants.{Tree, Write, Scratch, LongLine, FileTooLong, Disagree, Memory}
use Rattle.stack_state.specs.Steps.{TempsStay, IsWhole, IsPart, HasStepCause, Steps, said_by}

-- ---- temporary names
pub temps-both : (f g h : Files) → TempsStay f g → TempsStay g h → TempsStay f h
temps-both f g h a b q temp = ⊎_elim
    (λ (none : get h q ≡ None). inl none)
    (λ (same : get h q ≡ get g q). ⊎_elim (λ (none : get g q ≡ None). inl (same ∙ none)) (λ (kept : get g q ≡ get f q). inr (same ∙ kept)) (a q temp))
    (b q temp)

pub temps-same : (f : Files) → TempsStay f f
temps-same f q temp = inr refl

pub temps-put : (name bytes : List ℕ) (f : Files) → is_temp name ≡ false → TempsStay f (after (Put name bytes) f)
temps-put name bytes f lasting q temp = ⊎_elim
    (λ (eq : q ≡ temp_of name). inl (ap (λ (n : List ℕ). get (after (Put name bytes) f) n) eq ∙ get-gone (insert f name bytes) (temp_of name)))
    (λ ne. inr (get-gone_other (insert f name bytes) (temp_of name) q ne ∙ get-put_other f name bytes q (λ eq. apart name q lasting temp (sym eq))))
    (equal_or_not q (temp_of name))

pub temps-gone : (name : List ℕ) (f : Files) → is_temp name ≡ false → TempsStay f (after (Remove name) f)
temps-gone name f lasting q temp = inr (get-gone_other f name q (λ eq. apart name q lasting temp (sym eq)))

-- ---- whole and in part
module _ {u v w : TreeView} {c d e : SinkView} (es ds : List Effect) (t s : List ℕ) where
  whole-both : (f : Files) → IsWhole u v c d es t f → IsWhole v w d e ds s (after_all es f) → IsWhole u w c e (es ++ ds) (t ++ s) f
  whole-both f a b = record {
    made = made_both a.made b.made;
    said = received_both c d e t s a.said b.said;
    told = b.told ∙ ap (λ (g : Files). Some g) (sym (after_all-append es ds f));
    temps = subst (λ (g : Files). TempsStay f g) (sym (after_all-append es ds f)) (temps-both f (after_all es f) (after_all ds (after_all es f)) a.temps b.temps);
  }

  whole-part : (f : Files) → IsWhole u v c d es t f → Passes v w → IsPart v w d e ds s → IsPart u w c e (es ++ ds) (t ++ s)
  whole-part f a passes b = record {
    tells = tells_after a.made passes ds b.tells;
    leaves = leaves_after a.made passes ds b.leaves;
    said = part_after c d e t s a.said b.said;
  }

part-more : {u w : TreeView} {c d : SinkView} (es ds : List Effect) (t s : List ℕ) → IsPart u w c d es t → IsPart u w c d (es ++ ds) (t ++ s)
part-more {u = u} {w = w} {c = c} {d = d} es ds t s part = record {
  tells = tells_longer u w es ds (es ++ ds) refl part.tells;
  leaves = since_longer u w es ds (es ++ ds) refl part.leaves;
  said = part_longer c d t s part.said;
}

-- ---- steps one after another
cause-then : {u v : TreeView} {c d : SinkView} (w : TreeView) (e : SinkView) (fault : RunFault) → Passes u v → SinkPasses c d → HasStepCause fault v w d e → HasStepCause fault u w c e
cause-then {u = u} {v = v} w e Tree passes sinks cause = rises_then u v w passes cause
cause-then w e Write passes sinks cause = λ small. omega (arith, cause small, sinks.counts)
cause-then w e Scratch passes sinks cause = absurd cause
cause-then w e (LongLine line size) passes sinks cause = absurd cause
cause-then w e (FileTooLong size) passes sinks cause = absurd cause
cause-then w e (Disagree want got) passes sinks cause = absurd cause
cause-then w e Memory passes sinks cause = tt

pub steps_then : {R S : Type 0} {u v w : TreeView} {c d e : SinkView} {es ds : Files → List Effect} {t s : Files → List ℕ} (x : R) (r : Result S RunFault)
    → Steps u v c d (Ok x) es t → Steps v w d e r ds s → Steps u w c e r (λ f. es f ++ ds (after_all (es f) f)) (λ f. t f ++ s (after_all (es f) f))
steps_then {es = es} {ds = ds} {t = t} {s = s} x (Ok y) a b = record {
  tree = passes_both a.tree b.tree;
  sink = sink_passes_both a.sink b.sink;
  quiet = b.quiet;
  cause = tt;
  ok = λ f told.
      let first = a.ok f told in
      whole-both (es f) (ds (after_all (es f) f)) (t f) (s (after_all (es f) f)) f first (b.ok (after_all (es f) f) first.told);
  err = tt;
}
steps_then {w = w} {e = e} {es = es} {ds = ds} {t = t} {s = s} x (Err y) a b = record {
  tree = passes_both a.tree b.tree;
  sink = sink_passes_both a.sink b.sink;
  quiet = tt;
  cause = cause-then w e y a.tree a.sink b.cause;
  ok = tt;
  err = λ f told.
      let first = a.ok f told in
      whole-part (es f) (ds (after_all (es f) f)) (t f) (s (after_all (es f) f)) f first b.tree (b.err (after_all (es f) f) first.told);
}

-- nothing more is done after a fault
pub steps_stop : {R S : Type 0} {u w : TreeView} {c d : SinkView} {es : Files → List Effect} {t : Files → List ℕ} (y : RunFault) (more : Files → List Effect) (rest : Files → List ℕ)
    → Steps {R = R} u w c d (Err y) es t → Steps {R = S} u w c d (Err y) (λ f. es f ++ more f) (λ f. t f ++ rest f)
steps_stop {es = es} {t = t} y more rest a = record {
  tree = a.tree;
  sink = a.sink;
  quiet = tt;
  cause = a.cause;
  ok = tt;
  err = λ f told. part-more (es f) (more f) (t f) (rest f) (a.err f told);
}

-- the same effects and text in other words
pub steps_is : {R : Type 0} {u w : TreeView} {c d : SinkView} {es : Files → List Effect} {t : Files → List ℕ} (r : Result R RunFault) (ds : Files → List Effect) (s : Files → List ℕ)
    → ((f : Files) → u.told ≡ Some f → ds f ≡ es f) → ((f : Files) → u.told ≡ Some f → s f ≡ t f) → Steps u w c d r es t → Steps u w c d r ds s
steps_is {u = u} {w = w} {c = c} {d = d} {es = es} {t = t} (Ok x) ds s same text a = record {
  tree = a.tree;
  sink = a.sink;
  quiet = a.quiet;
  cause = tt;
  ok = λ f told. subst (λ (l : List Effect). IsWhole u w c d l (s f) f) (sym (same f told)) (subst (λ (l : List ℕ). IsWhole u w c d (es f) l f) (sym (text f told)) (a.ok f told));
  err = tt;
}
steps_is {u = u} {w = w} {c = c} {d = d} {es = es} {t = t} (Err y) ds s same text a = record {
  tree = a.tree;
  sink = a.sink;
  quiet = tt;
  cause = a.cause;
  ok = tt;
  err = λ f told. subst (λ (l : List Effect). IsPart u w c d l (s f)) (sym (same f told)) (subst (λ (l : List ℕ). IsPart u w c d (es f) l) (sym (text f told)) (a.err f told));
}

-- ---- one step
-- nothing is done
whole-none : (u : TreeView) (c : SinkView) → IsQuiet u → (f : Files) → u.told ≡ Some f → IsWhole u u c c [] [] f
whole-none u c quiet f told = record { made = made_none u quiet; said = received_none c; told = told; temps = temps-same f }

part-none : (u : TreeView) (c : SinkView) → IsQuiet u → (es : List Effect) (t : List ℕ) → IsPart u u c c es t
part-none u c quiet es t = part-more {u = u} {w = u} {c = c} {d = c} [] es [] t (record {
  tells = made_tells_all u u [] (made_none u quiet);
  leaves = (made_none u quiet).since;
  said = received_part c c [] (received_none c);
})

pub steps_none : {R : Type 0} (u : TreeView) (c : SinkView) (x : R) → IsQuiet u → Steps u u c c (Ok x) (λ f. []) (λ f. [])
steps_none u c x quiet = record { tree = passes_none u; sink = sink_passes_none c; quiet = quiet; cause = tt; ok = λ f told. whole-none u c quiet f told; err = tt }

pub steps_starved : {R : Type 0} (u : TreeView) (c : SinkView) (es : Files → List Effect) (t : Files → List ℕ) → IsQuiet u → Steps {R = R} u u c c (Err Memory) es t
steps_starved u c es t quiet = record { tree = passes_none u; sink = sink_passes_none c; quiet = tt; cause = tt; ok = tt; err = λ f told. part-none u c quiet (es f) (t f) }

-- a text is said
pub says : {R S E : Type 0} (u : TreeView) {c d : SinkView} (x : R) (y : S) (text : List ℕ) → IsQuiet u → Writes {E = E} c d (Ok x) text → Steps u u c d (Ok y) (λ f. []) (λ f. text)
says u x y text quiet writes = record {
  tree = passes_none u;
  sink = writes.call.passes;
  quiet = quiet;
  cause = tt;
  ok = λ f told. record { made = made_none u quiet; said = writes.received; told = told; temps = temps-same f };
  err = tt;
}

pub says_not : {R S E : Type 0} (u : TreeView) {c d : SinkView} (x : E) (text : List ℕ) → IsQuiet u → Writes {R = R} c d (Err x) text → Steps {R = S} u u c d (Err Write) (λ f. []) (λ f. text)
says_not u x text quiet writes = record {
  tree = passes_none u;
  sink = writes.call.passes;
  quiet = tt;
  cause = writes.call.cause refl;
  ok = tt;
  err = λ f told. record { tells = made_tells_all u u [] (made_none u quiet); leaves = (made_none u quiet).since; said = writes.failed };
}

-- an effect is made
pub effect_made : {R S E : Type 0} {u w : TreeView} (c : SinkView) (x : R) (y : S) (effect : Effect) → IsQuiet u → MakesEffect {E = E} u w (Ok x) effect → Becomes u w (after effect) → ((f : Files) → TempsStay f (after effect f))
    → Steps u w c c (Ok y) (λ f. effect ∷ []) (λ f. [])
effect_made {u = u} {w = w} c x y effect quiet makes becomes temps = record {
  tree = makes.run.passes;
  sink = sink_passes_none c;
  quiet = makes.quiet;
  cause = tt;
  ok = λ f told. record {
    made = made_more u u w [] effect (made_none u quiet) makes.run.passes makes.quiet makes.live makes.since;
    said = received_none c;
    told = becomes f told;
    temps = temps f;
  };
  err = tt;
}

pub effect_failed : {R S E : Type 0} {u w : TreeView} (c : SinkView) (x : E) (effect : Effect) → IsQuiet u → MakesEffect {R = R} u w (Err x) effect → Steps {R = S} u w c c (Err Tree) (λ f. effect ∷ []) (λ f. [])
effect_failed {u = u} {w = w} c x effect quiet makes = record {
  tree = makes.run.passes;
  sink = sink_passes_none c;
  quiet = tt;
  cause = makes.run.cause refl;
  ok = tt;
  err = λ f told. record {
    tells = made_tells u u w [] effect (made_none u quiet) makes.run.passes makes.either;
    leaves = made_since u u w [] effect (made_none u quiet) makes.run.passes makes.since;
    said = received_part c c [] (received_none c);
  };
}

-- a text is said behind other steps
pub then_says : {R S T E : Type 0} {u v : TreeView} {c d e : SinkView} {es : Files → List Effect} (x : R) (z : T) (y : S) (text : List ℕ) → Steps u v c d (Ok x) es (λ f. []) → Writes {E = E} d e (Ok z) text → Steps u v c e (Ok y) es (λ f. text)
then_says {v = v} {es = es} x z y text a writes = steps_is (Ok y) es (λ f. text) (λ f told. sym (append-nil (es f))) (λ f told. refl) (steps_then x (Ok y) a (says v z y text a.quiet writes))

pub then_says_not : {R S T E : Type 0} {u v : TreeView} {c d e : SinkView} {es : Files → List Effect} (x : R) (z : E) (text : List ℕ) → Steps u v c d (Ok x) es (λ f. []) → Writes {R = T} d e (Err z) text → Steps {R = S} u v c e (Err Write) es (λ f. text)
then_says_not {S = S} {v = v} {es = es} x z text a writes = steps_is (Err Write) es (λ f. text) (λ f told. sym (append-nil (es f))) (λ f told. refl) (steps_then {S = S} x (Err Write) a (says_not v z text a.quiet writes))

-- a fault before anything is said
pub unsaid : {R S : Type 0} {u w : TreeView} {c d : SinkView} {es : Files → List Effect} (y : RunFault) (text : List ℕ) → Steps {R = R} u w c d (Err y) es (λ f. []) → Steps {R = S} u w c d (Err y) es (λ f. text)
unsaid {S = S} {es = es} y text a = steps_is {R = S} (Err y) es (λ f. text) (λ f told. sym (append-nil (es f))) (λ f told. refl) (steps_stop y (λ f. []) (λ f. text) a)

pub then_said : {E : Type 0} {u v : TreeView} {c d e : SinkView} {es : Files → List Effect} {R : Type 0} (x : R) (text : List ℕ) (r : Result (Unit {0}) E) (s : Result (Unit {0}) RunFault) → s ≡ said_by r → Steps u v c d (Ok x) es (λ f. []) → Writes d e r text
    → Steps u v c e s es (λ f. text)
then_said {u = u} {v = v} {c = c} {e = e} {es = es} x text (Ok y) s is a writes = subst (λ (z : Result (Unit {0}) RunFault). Steps u v c e z es (λ f. text)) (sym is) (then_says x y y text a writes)
then_said {u = u} {v = v} {c = c} {e = e} {es = es} x text (Err y) s is a writes = subst (λ (z : Result (Unit {0}) RunFault). Steps u v c e z es (λ f. text)) (sym is) (then_says_not x y text a writes)

pub says_by : {E : Type 0} (u : TreeView) {c d : SinkView} (r : Result (Unit {0}) E) (text : List ℕ) → IsQuiet u → Writes c d r text → Steps u u c d (said_by r) (λ f. []) (λ f. text)
says_by u (Ok x) text quiet writes = says u x x text quiet writes
says_by u (Err e) text quiet writes = says_not u e text quiet writes

-- ---- calls that only look
pub steps_untouched : {R : Type 0} {u v : TreeView} (c : SinkView) (x : R) → IsUntouched u v → IsQuiet u → Steps u v c c (Ok x) (λ f. []) (λ f. [])
steps_untouched c x same quiet = record {
  tree = same.passes;
  sink = sink_passes_none c;
  quiet = untouched_quiet same quiet;
  cause = tt;
  ok = λ f told. record { made = untouched_made same quiet; said = received_none c; told = same.told ∙ told; temps = temps-same f };
  err = tt;
}

pub untouched_fails : {R : Type 0} {u v : TreeView} (c : SinkView) (es : Files → List Effect) → IsUntouched u v → tree.Rises u v → IsQuiet u → Steps {R = R} u v c c (Err Tree) es (λ f. [])
untouched_fails {u = u} {v = v} c es same rises quiet = record {
  tree = same.passes;
  sink = sink_passes_none c;
  quiet = tt;
  cause = rises;
  ok = tt;
  err = λ f told. record {
    tells = tells_longer u v [] (es f) (es f) refl (made_tells_all u v [] (untouched_made same quiet));
    leaves = since_longer u v [] (es f) (es f) refl (untouched_made same quiet).since;
    said = received_part c c [] (received_none c);
  };
}

-- what holds of a number and one holds of the next
pub one_more : (P : ℕ → Type 0) (n : ℕ) → P (n + 1) → P (suc n)
one_more P n p = let e : suc n ≡ n + 1 = omega arith in rw e p
