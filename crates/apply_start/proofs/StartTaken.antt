-- How the start of a file patch goes on from its file, which is taken or not.
use Rattle.std.proofs.Common.{◌≡◌, ℕ, List, [], Bool, true, false, not, ◌||◌, if◌then◌else◌, Option, Some, is_some, Result, Ok, Err, IsErrAnd, refl, sym, ◌∙◌, ap, subst, arith}
use Rattle.std.specs.FinMap.{get}
use Rattle.outside.specs.Files.{Files}
use Rattle.outside.specs.TreeView.{TreeView}
use Rattle.outside.specs.SinkView.{SinkView, sink_passes_none, Receives, ReceivesPart}
use Rattle.outside.proofs.Writing.{received_none}
use Rattle.hunk_core.specs.declared.Side.{Side}
use Rattle.hunk_core.specs.Turned.{other_side}
use Rattle.line_store.specs.Store.{Seen, Keeps}
use Rattle.line_store.specs.Taking.{KeepsPlan}
use Rattle.line_store.specs.declared.fault.OpenFault.{OpenFault}
use Rattle.line_store.specs.declared.fault.OpenFault.TheVariants as open_fault
use Rattle.say_text.specs.Messages.{silenced, reversed_line}
use Rattle.read_file_patch.specs.declared.derived.Target.{Target}
use Rattle.apply_task.specs.declared.fault.RunFault.{RunFault}
use Rattle.apply_task.specs.declared.fault.RunFault.TheVariants.{Tree, Write, Scratch, LongLine, FileTooLong, Disagree, Memory}
use Rattle.apply_start.specs.declared.starting.Decision.{Decision}
use Rattle.apply_start.specs.declared.starting.Decision.TheVariants.{Skip, Refuse, Try}
use Rattle.apply_task.specs.Faults.{of_open}
use Rattle.apply_task.specs.Contexts.{PlainContext}
use Rattle.apply_start.specs.Start.{Start, skips, refuses, tries, said_first, lines_in, refusal_of, refused_or, lacks_word, is_reversed, first_hunk, prereq_said, on_direction, on_prereq, turns_round, skips_at}
use Rattle.apply_start.specs.Devices.{Told, HasRunCause, scratch_with}
use Rattle.apply_start.specs.Starting.{Starts, Takes, Weighs, said_in, taken_in, IsDecided, IsFree, IsUnbarred, IsBrokenOff, IsRefusal, HasPlanCause}
use Rattle.apply_start.proofs.StartSteps.{starts_is, none_part}

-- a start that is about a file that was taken: it is skipped as taken, or its hunks are tried at that place
abbrev pub IsAbout : ℕ → Option (List ℕ) → Start → Type 0
IsAbout place taken (skips said row t) = t ≡ taken
IsAbout place taken (refuses said fault) = ⊥
IsAbout place taken (tries said k side) = k ≡ place

about-first : (place : ℕ) (taken : Option (List ℕ)) (p : List ℕ) (s : Start) → IsAbout place taken s → IsAbout place taken (said_first p s)
about-first place taken p (skips said row t) is = is
about-first place taken p (refuses said fault) is = is
about-first place taken p (tries said k side) is = is

taken_about : (place : ℕ) (at : ℕ → Option (List ℕ)) (s : Start) → IsAbout place (at place) s → taken_in at s ≡ at place
taken_about place at (skips said row t) is = is
taken_about place at (refuses said fault) is = absurd is
taken_about place at (tries said k side) is = ap at is

decided_about : (x : Decision) (b : Seen) (place : ℕ) (at : ℕ → Option (List ℕ)) (s : Start) → IsAbout place (at place) s → IsDecided x b (λ k. at place) s → IsDecided x b at s
decided_about x b place at (skips said row t) is decided = decided
decided_about x b place at (refuses said fault) is decided = decided
decided_about x b place at (tries said k side) is decided = (decided.0, decided.1 ∙ ap (λ (m : ℕ). Some (lines_in (at m))) (sym is))

free_unbarred : (u : TreeView) (y : Decision) → IsUnbarred y → IsFree u y
free_unbarred u (Skip row) is = tt
free_unbarred u (Refuse place side) is = absurd is
free_unbarred u (Try place side) is = tt

plan_then : {a b e : Seen} → KeepsPlan a b → Keeps b e → KeepsPlan a e
plan_then before keeps = record {
  faults = omega (arith, before.faults, keeps.faults);
  telling = ap (λ (o : Option (List ℕ)). is_some o) keeps.scratch ∙ before.telling;
  size = keeps.size ∙ before.size;
  needs_memory = keeps.needs_memory ∙ before.needs_memory;
}

-- what a fault of the plan's lines or of the sink is for a run that took the file before
plan_cause : (x : RunFault) (u w : TreeView) (a b e : Seen) (c d : SinkView) → KeepsPlan a b → ((f : Files) → Told u a f → is_some b.told ≡ true) → HasPlanCause x b e c d → HasRunCause x u w a e c d
plan_cause Tree u w a b e c d plan lines is = absurd is
plan_cause Write u w a b e c d plan lines is = is
plan_cause Scratch u w a b e c d plan lines is = λ small. omega (arith, is small, plan.faults)
plan_cause (LongLine line length) u w a b e c d plan lines is = absurd is
plan_cause (FileTooLong length) u w a b e c d plan lines is = absurd is
plan_cause (Disagree want got) u w a b e c d plan lines is = (is.0, λ f told. let some = lines f told in absurd (cc (some, is.1)))
plan_cause Memory u w a b e c d plan lines is = absurd is

plan_broken : (x : RunFault) (b e : Seen) (c d : SinkView) (s : Start) → HasPlanCause x b e c d → ReceivesPart c d (said_in s) → IsBrokenOff x c d s
plan_broken Tree b e c d s cause is = is
plan_broken Write b e c d s cause is = is
plan_broken Scratch b e c d s cause is = is
plan_broken (LongLine line length) b e c d s cause is = absurd cause
plan_broken (FileTooLong length) b e c d s cause is = absurd cause
plan_broken (Disagree want got) b e c d s cause is = is
plan_broken Memory b e c d s cause is = is

refused_broken : (c : SinkView) (x : OpenFault) (o : Option OpenFault) (later : Start) → o ≡ Some x → Receives c c (said_in (refused_or o later)) × (refused_or o later ≡ refuses (said_in (refused_or o later)) x)
refused_broken c x o later is =
    subst (λ (z : Option OpenFault). Receives c c (said_in (refused_or z later)) × (refused_or z later ≡ refuses (said_in (refused_or z later)) x)) (sym is) (received_none c, refl)

untaken_broken : (c : SinkView) (x : OpenFault) (o : Option OpenFault) (later : Start) → IsRefusal x o → IsBrokenOff (of_open x) c c (refused_or o later)
untaken_broken c open_fault.Tree o later is = none_part c (said_in (refused_or o later))
untaken_broken c open_fault.Scratch o later is = none_part c (said_in (refused_or o later))
untaken_broken c (open_fault.LongLine line length) o later is = refused_broken c (open_fault.LongLine line length) o later is
untaken_broken c (open_fault.FileTooLong length) o later is = refused_broken c (open_fault.FileTooLong length) o later is
untaken_broken c (open_fault.Disagree want got) o later is = none_part c (said_in (refused_or o later))
untaken_broken c open_fault.Memory o later is = none_part c (said_in (refused_or o later))

module _ {sa : ℕ → List ℕ → Option (List ℕ) → Option (List ℕ)} (bytes : Files → ℕ → Option (List ℕ)) (place : ℕ) (more : Option (List ℕ) → Start) where
  weighed : {u w : TreeView} {a b e : Seen} {c d : SinkView} {there : Bool} (r : Result Decision RunFault)
      → Takes u w a b sa (Ok tt) (λ f. bytes f place) → Weighs b e c d there r more
      → ((f : Files) → u.told ≡ Some f → there ≡ is_some (bytes f place)) → ((f : Files) → IsAbout place (bytes f place) (more (bytes f place)))
      → Starts u w a e c d sa r bytes (λ f. more (bytes f place))
  weighed {u = u} {a = a} {b = b} {e = e} {c = c} {d = d} (Ok y) took weighs is about = record {
    untouched = took.untouched;
    plan = plan_then took.plan weighs.plan;
    sink = weighs.sink;
    cause = tt;
    said = λ f told. weighs.said (bytes f place) (took.lines f told, is f told.0);
    decided = λ f told. decided_about y e place (bytes f) (more (bytes f place)) (about f) (weighs.decided (bytes f place) (took.lines f told, is f told.0));
    free = free_unbarred u y weighs.unbarred;
    scratch = λ f told. weighs.plan.scratch ∙ took.scratch f told ∙ ap (λ (o : Option (List ℕ)). scratch_with sa a.size o a.scratch) (sym (taken_about place (bytes f) (more (bytes f place)) (about f)));
    broken = tt;
  }
  weighed {u = u} {w = w} {a = a} {b = b} {e = e} {c = c} {d = d} (Err y) took weighs is about = record {
    untouched = took.untouched;
    plan = plan_then took.plan weighs.plan;
    sink = weighs.sink;
    cause = plan_cause y u w a b e c d took.plan (λ f told. ap (λ (o : Option (List (List ℕ))). is_some o) (took.lines f told)) weighs.cause;
    said = tt;
    decided = tt;
    free = tt;
    scratch = tt;
    broken = λ f told. plan_broken y b e c d (more (bytes f place)) weighs.cause (weighs.broken (bytes f place) (took.lines f told, is f told.0));
  }

  -- it was taken, and its lines are weighed
  pub starts_taken : {u w : TreeView} {a b e : Seen} {c d : SinkView} {there : Bool} {size : ℕ} (r : Result Decision RunFault)
      → a.size ≡ size → Takes u w a b sa (Ok tt) (λ f. bytes f place) → Weighs b e c d there r more
      → ((f : Files) → u.told ≡ Some f → there ≡ is_some (bytes f place)) → ((f : Files) → IsAbout place (bytes f place) (more (bytes f place)))
      → Starts u w a e c d sa r bytes (λ f. refused_or (refusal_of size (bytes f place)) (more (bytes f place)))
  starts_taken {size = size} r sized took weighs is about = starts_is r (λ f. refused_or (refusal_of size (bytes f place)) (more (bytes f place))) (weighed r took weighs is about)
      (λ f told. ap (λ (o : Option OpenFault). refused_or o (more (bytes f place))) (sym (ap (λ (n : ℕ). refusal_of n (bytes f place)) (sym sized) ∙ took.admitted f told)))

  untaken : {u w : TreeView} {a b : Seen} (c : SinkView) (x : OpenFault) (r : Result Decision RunFault)
      → IsErrAnd r (λ e. e ≡ of_open x) → Takes u w a b sa (Err x) (λ f. bytes f place)
      → Starts u w a b c c sa r bytes (λ f. refused_or (refusal_of a.size (bytes f place)) (more (bytes f place)))
  untaken c x (Ok y) is took = absurd is
  untaken {u = u} {w = w} {a = a} {b = b} c x (Err y) is took = record {
    untouched = took.untouched;
    plan = took.plan;
    sink = sink_passes_none c;
    cause = subst (λ (z : RunFault). HasRunCause z u w a b c c) (sym is) (took.cause c);
    said = tt;
    decided = tt;
    free = tt;
    scratch = tt;
    broken = λ f told. subst (λ (z : RunFault). IsBrokenOff z c c (refused_or (refusal_of a.size (bytes f place)) (more (bytes f place)))) (sym is)
        (untaken_broken c x (refusal_of a.size (bytes f place)) (more (bytes f place)) (took.refused f told));
  }

  -- it was not taken
  pub starts_untaken : {u w : TreeView} {a b : Seen} {size : ℕ} (c : SinkView) (x : OpenFault) (r : Result Decision RunFault)
      → a.size ≡ size → IsErrAnd r (λ e. e ≡ of_open x) → Takes u w a b sa (Err x) (λ f. bytes f place)
      → Starts u w a b c c sa r bytes (λ f. refused_or (refusal_of size (bytes f place)) (more (bytes f place)))
  starts_untaken {size = size} c x r sized is took = starts_is r (λ f. refused_or (refusal_of size (bytes f place)) (more (bytes f place))) (untaken c x r is took)
      (λ f told. ap (λ (n : ℕ). refused_or (refusal_of n (bytes f place)) (more (bytes f place))) sized)

-- the file of a target
pub takes_at : {u w : TreeView} {a b : Seen} {sa : ℕ → List ℕ → Option (List ℕ) → Option (List ℕ)} {r : Result (Unit {0}) OpenFault} {x y : Target} → x ≡ y → Takes u w a b sa r (λ f. get f x.name) → Takes u w a b sa r (λ f. get f y.name)
takes_at {u = u} {w = w} {a = a} {b = b} {sa = sa} {r = r} is takes = subst (λ (t : Target). Takes u w a b sa r (λ f. get f t.name)) is takes

-- ---- what is weighed is about the file that was taken

about_if : (place : ℕ) (taken : Option (List ℕ)) (test : Bool) (x y : Start) → IsAbout place taken x → IsAbout place taken y → IsAbout place taken (if test then x else y)
about_if place taken true x y first second = first
about_if place taken false x y first second = second

direction_about : (t : PlainContext) (place : ℕ) (bytes : Option (List ℕ)) (was_turned : Bool) (side : Side) → IsAbout place bytes (on_direction t place bytes was_turned side)
direction_about t place bytes was_turned side =
    let said = λ (is_turned : Bool). silenced t.options (reversed_line is_turned) in
    let on = tries (said true) place (other_side side) in
    let off = skips_at (said false) place side bytes in
    about_if place bytes (t.options.force || was_turned || not (is_reversed t.options (lines_in bytes) side (first_hunk t.item.patch.change))) (tries [] place side) (if turns_round t then on else off) refl
    (about_if place bytes (turns_round t) on off refl refl)

pub prereq_about : (t : PlainContext) (place : ℕ) (bytes : Option (List ℕ)) (was_turned : Bool) (side : Side) → IsAbout place bytes (on_prereq t place bytes was_turned side)
prereq_about t place bytes was_turned side =
    let direction = on_direction t place bytes was_turned side in
    let about = direction_about t place bytes was_turned side in
    let warned = said_first (prereq_said t) direction in
    let off = skips_at (prereq_said t) place side bytes in
    about_if place bytes (not (lacks_word t.item.patch.header.prereq bytes)) direction (if t.options.force then warned else off) about
    (about_if place bytes t.options.force warned off (about-first place bytes (prereq_said t) direction about) refl)
