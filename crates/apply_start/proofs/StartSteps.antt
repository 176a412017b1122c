-- How the start of a file patch goes on from step to step.
use Rattle.std.proofs.Common.{◌≡◌, ℕ, List, [], ◌++◌, Option, None, Some, Result, Ok, Err, IfOk, IfErr, IsErrAnd, refl, sym, ◌∙◌, ap, subst, arith}
use Rattle.std.proofs.lemmas.Bool.{false≢true}
use Rattle.std.proofs.lemmas.List.{append-nil}
use Rattle.outside.specs.Files.{Files}
use Rattle.outside.specs.TreeView.{TreeView}
use Rattle.outside.specs.TreeView as tree
use Rattle.outside.specs.Calls.{IsUntouched, untouched_none, untouched_both}
use Rattle.outside.specs.SinkView.{SinkView, SinkPasses, sink_passes_none, sink_passes_both, Receives, ReceivesPart, Writes}
use Rattle.outside.proofs.Views.{rises_then}
use Rattle.outside.proofs.Writing.{received_none, received_part, received_both, part_after, part_longer}
use Rattle.line_store.specs.Store.{Seen}
use Rattle.line_store.specs.Taking.{KeepsPlan}
use Rattle.line_store.specs.declared.fault.OpenFault.{OpenFault}
use Rattle.line_store.specs.declared.fault.OpenFault.TheVariants as open_fault
use Rattle.patch_set.specs.declared.set.Row.{Row}
use Rattle.apply_task.specs.declared.fault.RunFault.{RunFault}
use Rattle.apply_task.specs.declared.fault.RunFault.TheVariants.{Tree, Write, Scratch, LongLine, FileTooLong, Disagree, Memory}
use Rattle.apply_start.specs.declared.starting.Decision.{Decision}
use Rattle.apply_start.specs.declared.starting.Decision.TheVariants.{Skip, Refuse, Try}
use Rattle.apply_start.specs.Start.{Start, skips, refuses, tries, said_first}
use Rattle.apply_start.specs.Devices.{Told, HasRunCause, scratch_with}
use Rattle.apply_start.specs.Starting.{Starts, said_in, taken_in, IsDecided, IsFree, IsBrokenOff}

-- ---- what is said first

pub said-first : (p : List ℕ) (s : Start) → said_in (said_first p s) ≡ p ++ said_in s
said-first p (skips said row taken) = refl
said-first p (refuses said fault) = refl
said-first p (tries said place side) = refl

taken-first : (at : ℕ → Option (List ℕ)) (p : List ℕ) (s : Start) → taken_in at (said_first p s) ≡ taken_in at s
taken-first at p (skips said row taken) = refl
taken-first at p (refuses said fault) = refl
taken-first at p (tries said place side) = refl

pub decided-first : (x : Decision) (b : Seen) (at : ℕ → Option (List ℕ)) (p : List ℕ) (s : Start) → IsDecided x b at s → IsDecided x b at (said_first p s)
decided-first x b at p (skips said row taken) is = is
decided-first x b at p (refuses said fault) is = is
decided-first x b at p (tries said place side) is = is

refused-first : (p : List ℕ) (x : OpenFault) (s : Start) → s ≡ refuses (said_in s) x → said_first p s ≡ refuses (said_in (said_first p s)) x
refused-first p x s is = ap (λ (l : Start). said_first p l) is ∙ ap (λ (l : List ℕ). refuses l x) (sym (said-first p s))

-- a start says this text before anything else
pub record Begins (p : List ℕ) (s : Start) : Type 0 where
  pub more : List ℕ
  pub is : said_in s ≡ p ++ more

pub begins_first : (p : List ℕ) (s : Start) → Begins p (said_first p s)
begins_first p s = record { more = said_in s; is = said-first p s }

pub begins_skips : (p : List ℕ) (row : Row) (taken : Option (List ℕ)) → Begins p (skips p row taken)
begins_skips p row taken = record { more = []; is = sym (append-nil p) }

module _ (c d e : SinkView) (p : List ℕ) (first : Receives c d p) where
  received_first : (s : Start) → Receives d e (said_in s) → Receives c e (said_in (said_first p s))
  received_first s is = subst (λ (l : List ℕ). Receives c e l) (sym (said-first p s)) (received_both c d e p (said_in s) first is)

  part_first : (s : Start) → ReceivesPart d e (said_in s) → ReceivesPart c e (said_in (said_first p s))
  part_first s is = subst (λ (l : List ℕ). ReceivesPart c e l) (sym (said-first p s)) (part_after c d e p (said_in s) first is)

  broken_first : (x : RunFault) (s : Start) → IsBrokenOff x d e s → IsBrokenOff x c e (said_first p s)
  broken_first Tree s is = part_first s is
  broken_first Write s is = part_first s is
  broken_first Scratch s is = part_first s is
  broken_first (LongLine line length) s is = (received_first s is.0, refused-first p (open_fault.LongLine line length) s is.1)
  broken_first (FileTooLong length) s is = (received_first s is.0, refused-first p (open_fault.FileTooLong length) s is.1)
  broken_first (Disagree want got) s is = part_first s is
  broken_first Memory s is = part_first s is

-- ---- causes

said_cause : (x : RunFault) (u w : TreeView) (a b : Seen) (c d e : SinkView) → SinkPasses c d → HasRunCause x u w a b d e → HasRunCause x u w a b c e
said_cause Tree u w a b c d e passes is = is
said_cause Write u w a b c d e passes is = λ small. omega (arith, is small, passes.counts)
said_cause Scratch u w a b c d e passes is = is
said_cause (LongLine line length) u w a b c d e passes is = is
said_cause (FileTooLong length) u w a b c d e passes is = is
said_cause (Disagree want got) u w a b c d e passes is = is
said_cause Memory u w a b c d e passes is = is

told_after : {u v : TreeView} (a : Seen) (f : Files) → IsUntouched u v → Told u a f → Told v a f
told_after a f same told = (same.told ∙ told.0, told.1)

tree_cause : (x : RunFault) (u v w : TreeView) (a b : Seen) (c d : SinkView) → IsUntouched u v → HasRunCause x v w a b c d → HasRunCause x u w a b c d
tree_cause Tree u v w a b c d same is = rises_then u v w same.passes is
tree_cause Write u v w a b c d same is = is
tree_cause Scratch u v w a b c d same is = is
tree_cause (LongLine line length) u v w a b c d same is = is
tree_cause (FileTooLong length) u v w a b c d same is = is
tree_cause (Disagree want got) u v w a b c d same is = (is.0, λ f told. is.1 f (same.told ∙ told.0, told.1))
tree_cause Memory u v w a b c d same is = is

plan_none : (a : Seen) → KeepsPlan a a
plan_none a = record { faults = omega arith; telling = refl; size = refl; needs_memory = refl }

-- nothing of a text was received
pub none_part : (c : SinkView) (q : List ℕ) → ReceivesPart c c q
none_part c q = part_longer c c [] q (received_part c c [] (received_none c))

-- ---- refusals

free_after : {u v : TreeView} (y : Decision) → IsUntouched u v → IsFree v y → IsFree u y
free_after (Skip row) same free = tt
free_after (Refuse place side) same free = λ f told. free f (same.told ∙ told)
free_after (Try place side) same free = tt

free_untold : (u : TreeView) (y : Decision) → ((f : Files) → u.told ≡ Some f → ⊥) → IsFree u y
free_untold u (Skip row) untold = tt
free_untold u (Refuse place side) untold = untold
free_untold u (Try place side) untold = tt

-- the tree failed before anything was said
pub starts_lost : {u w : TreeView} {a : Seen} {c : SinkView} {sa : ℕ → List ℕ → Option (List ℕ) → Option (List ℕ)} {bytes : Files → ℕ → Option (List ℕ)} (start : Files → Start)
    → IsUntouched u w → tree.Rises u w → Starts u w a a c c sa (Err Tree) bytes start
starts_lost {a = a} {c = c} start same rises = record {
  untouched = same;
  plan = plan_none a;
  sink = sink_passes_none c;
  cause = rises;
  said = tt;
  decided = tt;
  free = tt;
  scratch = tt;
  broken = λ f told. none_part c (said_in (start f));
}

-- ---- steps

-- a text, and then the rest
pub starts_said : {R E : Type 0} {u w : TreeView} {a b : Seen} {c d e : SinkView} {sa : ℕ → List ℕ → Option (List ℕ) → Option (List ℕ)} {bytes : Files → ℕ → Option (List ℕ)} {start : Files → Start} {p : List ℕ} (x : R) (r : Result Decision RunFault)
    → Writes {E = E} c d (Ok x) p → Starts u w a b d e sa r bytes start → Starts u w a b c e sa r bytes (λ f. said_first p (start f))
starts_said {a = a} {b = b} {c = c} {d = d} {e = e} {sa = sa} {bytes = bytes} {start = start} {p = p} x (Ok y) first rest = record {
  untouched = rest.untouched;
  plan = rest.plan;
  sink = sink_passes_both first.call.passes rest.sink;
  cause = tt;
  said = λ f told. received_first c d e p first.received (start f) (rest.said f told);
  decided = λ f told. decided-first y b (bytes f) p (start f) (rest.decided f told);
  free = rest.free;
  scratch = λ f told. rest.scratch f told ∙ ap (λ (o : Option (List ℕ)). scratch_with sa a.size o a.scratch) (sym (taken-first (bytes f) p (start f)));
  broken = tt;
}
starts_said {u = u} {w = w} {a = a} {b = b} {c = c} {d = d} {e = e} {start = start} {p = p} x (Err y) first rest = record {
  untouched = rest.untouched;
  plan = rest.plan;
  sink = sink_passes_both first.call.passes rest.sink;
  cause = said_cause y u w a b c d e first.call.passes rest.cause;
  said = tt;
  decided = tt;
  free = tt;
  scratch = tt;
  broken = λ f told. broken_first c d e p first.received y (start f) (rest.broken f told);
}

-- calls of the tree that leave it as it is, and then the rest
pub starts_after : {u v w : TreeView} {a b : Seen} {c d : SinkView} {sa : ℕ → List ℕ → Option (List ℕ) → Option (List ℕ)} {bytes : Files → ℕ → Option (List ℕ)} {start : Files → Start} (r : Result Decision RunFault)
    → IsUntouched u v → Starts v w a b c d sa r bytes start → Starts u w a b c d sa r bytes start
starts_after {a = a} (Ok y) same rest = record {
  untouched = untouched_both same rest.untouched;
  plan = rest.plan;
  sink = rest.sink;
  cause = tt;
  said = λ f told. rest.said f (told_after a f same told);
  decided = λ f told. rest.decided f (told_after a f same told);
  free = free_after y same rest.free;
  scratch = λ f told. rest.scratch f (told_after a f same told);
  broken = tt;
}
starts_after {u = u} {v = v} {w = w} {a = a} {b = b} {c = c} {d = d} (Err y) same rest = record {
  untouched = untouched_both same rest.untouched;
  plan = rest.plan;
  sink = rest.sink;
  cause = tree_cause y u v w a b c d same rest.cause;
  said = tt;
  decided = tt;
  free = tt;
  scratch = tt;
  broken = λ f told. rest.broken f (told_after a f same told);
}

-- the same, where the files that are told give another start
pub starts_is : {u w : TreeView} {a b : Seen} {c d : SinkView} {sa : ℕ → List ℕ → Option (List ℕ) → Option (List ℕ)} {bytes : Files → ℕ → Option (List ℕ)} {start : Files → Start} (r : Result Decision RunFault) (other : Files → Start)
    → Starts u w a b c d sa r bytes start → ((f : Files) → Told u a f → start f ≡ other f) → Starts u w a b c d sa r bytes other
starts_is {a = a} {b = b} {c = c} {d = d} {sa = sa} {bytes = bytes} (Ok y) other one same = record {
  untouched = one.untouched;
  plan = one.plan;
  sink = one.sink;
  cause = tt;
  said = λ f told. subst (λ (s : Start). Receives c d (said_in s)) (same f told) (one.said f told);
  decided = λ f told. subst (λ (s : Start). IsDecided y b (bytes f) s) (same f told) (one.decided f told);
  free = one.free;
  scratch = λ f told. subst (λ (s : Start). b.scratch ≡ scratch_with sa a.size (taken_in (bytes f) s) a.scratch) (same f told) (one.scratch f told);
  broken = tt;
}
starts_is {c = c} {d = d} (Err y) other one same = record {
  untouched = one.untouched;
  plan = one.plan;
  sink = one.sink;
  cause = one.cause;
  said = tt;
  decided = tt;
  free = tt;
  scratch = tt;
  broken = λ f told. subst (λ (s : Start). IsBrokenOff y c d s) (same f told) (one.broken f told);
}

module _ {sa : ℕ → List ℕ → Option (List ℕ) → Option (List ℕ)} {bytes : Files → ℕ → Option (List ℕ)} where
  -- the sink failed in a first text
  pub starts_unsaid : {R E : Type 0} {c d : SinkView} {p : List ℕ} (u : TreeView) (a : Seen) (x : E) (r : Result Decision RunFault) (start : Files → Start)
      → IsErrAnd r (λ e. e ≡ Write) → Writes {R = R} c d (Err x) p → ((f : Files) → Begins p (start f)) → Starts u u a a c d sa r bytes start
  starts_unsaid u a x (Ok y) start is first begins = absurd is
  starts_unsaid {c = c} {d = d} {p = p} u a x (Err y) start is first begins = record {
    untouched = untouched_none u;
    plan = plan_none a;
    sink = first.call.passes;
    cause = subst (λ (z : RunFault). HasRunCause z u u a a c d) (sym is) (first.call.cause refl);
    said = tt;
    decided = tt;
    free = tt;
    scratch = tt;
    broken = λ f told. subst (λ (z : RunFault). IsBrokenOff z c d (start f)) (sym is)
        (subst (λ (l : List ℕ). ReceivesPart c d l) (sym (begins f).is) (part_longer c d p (begins f).more first.failed));
  }

  -- a text, and the file patch is skipped, unless the sink failed
  pub starts_skips : {c d : SinkView} {p : List ℕ} (u : TreeView) (a : Seen) (r : Result Decision RunFault) (row : Row)
      → Writes c d r p → IfErr r (λ e. e ≡ Write) → IfOk r (λ y. y ≡ Skip row) → Starts u u a a c d sa r bytes (λ f. skips p row None)
  starts_skips u a (Ok y) row first fault is = record {
    untouched = untouched_none u;
    plan = plan_none a;
    sink = first.call.passes;
    cause = tt;
    said = λ f told. first.received;
    decided = λ f told. is;
    free = subst (IsFree u) (sym is) tt;
    scratch = λ f told. refl;
    broken = tt;
  }
  starts_skips {p = p} u a (Err y) row first fault is = starts_unsaid u a y (Err y) (λ f. skips p row None) fault first (λ f. begins_skips p row None)

  -- a call of the tree failed
  pub starts_failed : {u w : TreeView} (a : Seen) (c : SinkView) (start : Files → Start) → IsUntouched u w → tree.Rises u w → Starts u w a a c c sa (Err Tree) bytes start
  starts_failed a c start same rises = record {
    untouched = same;
    plan = plan_none a;
    sink = sink_passes_none c;
    cause = rises;
    said = tt;
    decided = tt;
    free = tt;
    scratch = tt;
    broken = λ f told. none_part c (said_in (start f));
  }

  -- something that no tree tells of is in the way
  pub starts_barred : {u w : TreeView} {c d : SinkView} {p : List ℕ} (a : Seen) (r : Result Decision RunFault) (start : Files → Start)
      → IsUntouched u w → ((f : Files) → u.told ≡ Some f → ⊥) → Writes c d r p → IfErr r (λ e. e ≡ Write) → Starts u w a a c d sa r bytes start
  starts_barred {u = u} a (Ok y) start same untold first fault = record {
    untouched = same;
    plan = plan_none a;
    sink = first.call.passes;
    cause = tt;
    said = λ f told. absurd (untold f told.0);
    decided = λ f told. absurd (untold f told.0);
    free = free_untold u y untold;
    scratch = λ f told. absurd (untold f told.0);
    broken = tt;
  }
  starts_barred {u = u} {w = w} {c = c} {d = d} a (Err y) start same untold first fault = record {
    untouched = same;
    plan = plan_none a;
    sink = first.call.passes;
    cause = subst (λ (z : RunFault). HasRunCause z u w a a c d) (sym fault) (first.call.cause refl);
    said = tt;
    decided = tt;
    free = tt;
    scratch = tt;
    broken = λ f told. absurd (untold f told.0);
  }

-- what was said, of another value
pub writes_value : {R S E F : Type 0} {c d : SinkView} {p : List ℕ} (x : R) (y : S) → Writes {E = E} c d (Ok x) p → Writes {E = F} c d (Ok y) p
writes_value x y first = record { call = record { passes = first.call.passes; cause = λ err. absurd (false≢true err) }; received = first.received; failed = tt }
