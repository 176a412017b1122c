-- A decision on the lines that were taken.
use Rattle.std.proofs.Common.{◌≡◌, ℕ, List, [], ◌++◌, Bool, true, false, not, ◌||◌, Option, Result, Ok, Err, if◌then◌else◌, refl, sym, ◌∙◌, ap, subst, arith}
use Rattle.std.proofs.lemmas.List.{append-nil}
use Rattle.std.specs.Result.{IsErrAnd}
use Rattle.hunk_core.specs.declared.Side.{Side}
use Rattle.hunk_core.specs.Turned.{other_side}
use Rattle.outside.specs.SinkView.{SinkView, SinkPasses, sink_passes_none, sink_passes_both, Receives, ReceivesPart, Writes}
use Rattle.outside.proofs.Writing.{writes_stop, received_both, part_after}
use Rattle.line_store.specs.declared.fault.LineFault.{LineFault}
use Rattle.line_store.specs.declared.fault.LineFault.TheVariants as line_fault
use Rattle.line_store.specs.Store.{Seen, Keeps, HasCause}
use Rattle.line_store.proofs.StoreLemmas.{keeps-more}
use Rattle.say_text.specs.Messages.{silenced, reversed_line}
use Rattle.apply_task.specs.declared.fault.RunFault.{RunFault}
use Rattle.apply_task.specs.declared.fault.RunFault.TheVariants.{Tree, Write, Scratch, LongLine, FileTooLong, Disagree, Memory}
use Rattle.apply_start.specs.declared.starting.Decision.{Decision}
use Rattle.apply_task.specs.Faults.{of_line}
use Rattle.apply_task.specs.Contexts.{PlainContext}
use Rattle.apply_start.specs.Start.{Start, skips, refuses, tries, said_first, skips_at, on_direction, on_prereq, prereq_said, lacks_word, lines_in, first_hunk, is_reversed, turns_round}
use Rattle.apply_start.specs.Starting.{said_in, IsDecided, IsUnbarred, Holds, HasPlanCause, Weighs}
use Rattle.apply_start.proofs.StartSteps.{said-first, decided-first, none_part}

-- the sink failed in a text that the start begins with
pub weighs_stops : {E D : Type 0} {a b : Seen} {c d : SinkView} {p : List ℕ} (there : Bool) (x : D) (s : Result Decision RunFault) (start : Option (List ℕ) → Start) (more : Option (List ℕ) → List ℕ)
    → IsErrAnd s (λ e. e ≡ Write) → Keeps a b → Writes {R = E} {E = D} c d (Err x) p → ((bytes : Option (List ℕ)) → Holds a there bytes → said_in (start bytes) ≡ p ++ more bytes) → Weighs a b c d there s start
weighs_stops there x (Ok v) start more is keeps w same = absurd is
weighs_stops {a = a} {b = b} {c = c} {d = d} {p = p} there x (Err e) start more is keeps w same = record {
  plan = keeps;
  sink = w.call.passes;
  cause = subst (λ z. HasPlanCause z a b c d) (sym is) (w.call.cause refl);
  said = tt;
  decided = tt;
  unbarred = tt;
  broken = λ bytes holds. subst (ReceivesPart c d) (sym (same bytes holds)) (writes_stop {S = Decision} x (Err e) (more bytes) refl w).failed;
}

turned-over : (force was rev turn : Bool) (kept : Start) (p : Bool → List ℕ) (b c : Start) → force ≡ false → was ≡ false → rev ≡ true → said_in b ≡ p true → said_in c ≡ p false
    → said_in (if force || was || not rev then kept else if turn then b else c) ≡ p turn
turned-over false false true true kept p b c calm first is one other = one
turned-over false false true false kept p b c calm first is one other = other
turned-over false false false turn kept p b c calm first is one other = absurd (cc)
turned-over false true rev turn kept p b c calm first is one other = absurd (cc)
turned-over true was rev turn kept p b c calm first is one other = absurd (cc)

-- what is said where the first hunk looks reversed
pub direction-said : (t : PlainContext) (place : ℕ) (bytes : Option (List ℕ)) (was_turned : Bool) (side : Side) → t.options.force ≡ false → was_turned ≡ false → is_reversed t.options (lines_in bytes) side (first_hunk t.item.patch.change) ≡ true
    → said_in (on_direction t place bytes was_turned side) ≡ silenced t.options (reversed_line (turns_round t))
direction-said t place bytes was_turned side calm first is =
    turned-over t.options.force was_turned (is_reversed t.options (lines_in bytes) side (first_hunk t.item.patch.change)) (turns_round t) (tries [] place side) (λ turned. silenced t.options (reversed_line turned))
    (tries (silenced t.options (reversed_line true)) place (other_side side)) (skips_at (silenced t.options (reversed_line false)) place side bytes) calm first is refl refl

-- what the plan's fault says of the plan and the sink
line_cause : (fault : LineFault) (a b : Seen) (c d : SinkView) → HasCause fault a b → HasPlanCause (of_line fault) a b c d
line_cause line_fault.Scratch a b c d is = is
line_cause (line_fault.Disagree want got) a b c d is = is

-- the plan failed, and nothing was said yet
pub weighs_fails : {a b : Seen} {c : SinkView} (there : Bool) (fault : LineFault) (s : Result Decision RunFault) (start : Option (List ℕ) → Start) → IsErrAnd s (λ e. e ≡ of_line fault) → Keeps a b → HasCause fault a b → Weighs a b c c there s start
weighs_fails there fault (Ok v) start is keeps cause = absurd is
weighs_fails {a = a} {b = b} {c = c} there fault (Err e) start is keeps cause = record {
  plan = keeps;
  sink = sink_passes_none c;
  cause = subst (λ x. HasPlanCause x a b c c) (sym is) (line_cause fault a b c c cause);
  said = tt;
  decided = tt;
  unbarred = tt;
  broken = λ bytes holds. none_part c (said_in (start bytes));
}

plan_cause : (e : RunFault) (a b k : Seen) (c d x : SinkView) → Keeps a b → SinkPasses c d → HasPlanCause e b k d x → HasPlanCause e a k c x
plan_cause Tree a b k c d x keeps passes is = is
plan_cause Write a b k c d x keeps passes is = λ small. omega (arith, is small, passes.counts)
plan_cause Scratch a b k c d x keeps passes is = λ small. omega (arith, is small, keeps.faults)
plan_cause (LongLine line length) a b k c d x keeps passes is = is
plan_cause (FileTooLong length) a b k c d x keeps passes is = is
plan_cause (Disagree want got) a b k c d x keeps passes is = (is.0, sym keeps.told ∙ is.1)
plan_cause Memory a b k c d x keeps passes is = is

holds_on : {a b : Seen} (there : Bool) (bytes : Option (List ℕ)) → Keeps a b → Holds a there bytes → Holds b there bytes
holds_on there bytes keeps holds = (keeps.told ∙ holds.0, holds.1)

-- the plan was looked at, a text was said, and the rest went on from there
pub weighs_after : {a b k : Seen} {c d x : SinkView} (there : Bool) (r : Result Decision RunFault) (p : List ℕ) (rest start : Option (List ℕ) → Start) → Keeps a b → SinkPasses c d → Receives c d p → Weighs b k d x there r rest
    → ((bytes : Option (List ℕ)) → Holds a there bytes → said_first p (rest bytes) ≡ start bytes) → Weighs a k c x there r start
weighs_after {a = a} {b = b} {k = k} {c = c} {d = d} {x = x} there (Ok v) p rest start keeps passes said later same = record {
  plan = keeps-more a b k keeps later.plan;
  sink = sink_passes_both passes later.sink;
  cause = tt;
  said = λ bytes holds. subst (λ (s : Start). Receives c x (said_in s)) (same bytes holds)
      (subst (λ (l : List ℕ). Receives c x l) (sym (said-first p (rest bytes))) (received_both c d x p (said_in (rest bytes)) said (later.said bytes (holds_on there bytes keeps holds))));
  decided = λ bytes holds. subst (λ (s : Start). IsDecided v k (λ place. bytes) s) (same bytes holds)
      (decided-first v k (λ place. bytes) p (rest bytes) (later.decided bytes (holds_on there bytes keeps holds)));
  unbarred = later.unbarred;
  broken = tt;
}
weighs_after {a = a} {b = b} {k = k} {c = c} {d = d} {x = x} there (Err e) p rest start keeps passes said later same = record {
  plan = keeps-more a b k keeps later.plan;
  sink = sink_passes_both passes later.sink;
  cause = plan_cause e a b k c d x keeps passes later.cause;
  said = tt;
  decided = tt;
  unbarred = tt;
  broken = λ bytes holds. subst (λ (s : Start). ReceivesPart c x (said_in s)) (same bytes holds)
      (subst (λ (l : List ℕ). ReceivesPart c x l) (sym (said-first p (rest bytes))) (part_after c d x p (said_in (rest bytes)) said (later.broken bytes (holds_on there bytes keeps holds))));
}

-- the decision is made, and a text was said that its start says
pub weighs_decides : {a b : Seen} {c d : SinkView} (there : Bool) (v : Decision) (p : List ℕ) (start is : Option (List ℕ) → Start) → IsUnbarred v → Keeps a b → SinkPasses c d → Receives c d p → ((bytes : Option (List ℕ)) → said_in (is bytes) ≡ p)
    → ((bytes : Option (List ℕ)) → Holds b there bytes → IsDecided v b (λ place. bytes) (is bytes)) → ((bytes : Option (List ℕ)) → Holds a there bytes → start bytes ≡ is bytes) → Weighs a b c d there (Ok v) start
weighs_decides {a = a} {b = b} {c = c} {d = d} there v p start is unbarred keeps passes received says decides same = record {
  plan = keeps;
  sink = passes;
  cause = tt;
  said = λ bytes holds. subst (λ (s : Start). Receives c d (said_in s)) (sym (same bytes holds)) (subst (λ (l : List ℕ). Receives c d l) (sym (says bytes)) received);
  decided = λ bytes holds. subst (λ (s : Start). IsDecided v b (λ place. bytes) s) (sym (same bytes holds)) (decides bytes (holds_on there bytes keeps holds));
  unbarred = unbarred;
  broken = tt;
}

kept-where : (force was rev : Bool) (kept other : Start) → rev ≡ false → (if force || was || not rev then kept else other) ≡ kept
kept-where true was rev kept other is = refl
kept-where false true rev kept other is = refl
kept-where false false false kept other is = refl
kept-where false false true kept other is = absurd (cc)

other-where : (force was rev : Bool) (kept other : Start) → force ≡ false → was ≡ false → rev ≡ true → (if force || was || not rev then kept else other) ≡ other
other-where false false true kept other calm first is = refl
other-where false false false kept other calm first is = absurd (cc)
other-where false true rev kept other calm first is = absurd (cc)
other-where true was rev kept other calm first is = absurd (cc)

module _ (t : PlainContext) (place : ℕ) (bytes : Option (List ℕ)) (was_turned : Bool) (side : Side) where
  abbrev over : Start
  over = if turns_round t then tries (silenced t.options (reversed_line true)) place (other_side side) else skips_at (silenced t.options (reversed_line false)) place side bytes

  -- the first hunk doesn't look reversed
  pub direction-kept : is_reversed t.options (lines_in bytes) side (first_hunk t.item.patch.change) ≡ false → on_direction t place bytes was_turned side ≡ tries [] place side
  direction-kept is = kept-where t.options.force was_turned (is_reversed t.options (lines_in bytes) side (first_hunk t.item.patch.change)) (tries [] place side) over is

  -- it does, and the file patch is turned round or skipped
  pub direction-over : (turned : Bool) → turns_round t ≡ turned → t.options.force ≡ false → was_turned ≡ false → is_reversed t.options (lines_in bytes) side (first_hunk t.item.patch.change) ≡ true
      → on_direction t place bytes was_turned side ≡ (if turned then tries (silenced t.options (reversed_line true)) place (other_side side) else skips_at (silenced t.options (reversed_line false)) place side bytes)
  direction-over turned turns calm first is =
      other-where t.options.force was_turned (is_reversed t.options (lines_in bytes) side (first_hunk t.item.patch.change)) (tries [] place side) over calm first is
      ∙ ap (λ (x : Bool). if x then tries (silenced t.options (reversed_line true)) place (other_side side) else skips_at (silenced t.options (reversed_line false)) place side bytes) turns

nothing-first : (s : Start) → said_first [] s ≡ s
nothing-first (skips said row taken) = refl
nothing-first (refuses said fault) = refl
nothing-first (tries said place side) = refl

module _ (lacks force : Bool) (p : List ℕ) (go stop : Start) where
  suits : lacks ≡ false → said_first [] go ≡ (if not lacks then go else if force then said_first p go else stop)
  suits is = nothing-first go ∙ sym (ap (λ b. if not b then go else if force then said_first p go else stop) is)

  warns : lacks ≡ true → force ≡ true → said_first p go ≡ (if not lacks then go else if force then said_first p go else stop)
  warns is forced = sym (ap (λ b. if not b then go else if force then said_first p go else stop) is ∙ ap (λ b. if b then said_first p go else stop) forced)

  stops : lacks ≡ true → force ≡ false → (if not lacks then go else if force then said_first p go else stop) ≡ stop
  stops is calm = ap (λ b. if not b then go else if force then said_first p go else stop) is ∙ ap (λ b. if b then said_first p go else stop) calm

  speaks : lacks ≡ true → said_in stop ≡ p → said_in (if not lacks then go else if force then said_first p go else stop) ≡ p ++ (if force then said_in go else [])
  speaks is own = ap (λ b. said_in (if not b then go else if force then said_first p go else stop)) is ∙ either force
    where
      either : (b : Bool) → said_in (if b then said_first p go else stop) ≡ p ++ (if b then said_in go else [])
      either true = said-first p go
      either false = own ∙ sym (append-nil p)

module _ (t : PlainContext) (place : ℕ) (bytes : Option (List ℕ)) (was_turned : Bool) (side : Side) where
  pub prereq-suits : lacks_word t.item.patch.header.prereq bytes ≡ false → said_first [] (on_direction t place bytes was_turned side) ≡ on_prereq t place bytes was_turned side
  prereq-suits is = suits (lacks_word t.item.patch.header.prereq bytes) t.options.force (prereq_said t) (on_direction t place bytes was_turned side) (skips_at (prereq_said t) place side bytes) is

  pub prereq-warns : lacks_word t.item.patch.header.prereq bytes ≡ true → t.options.force ≡ true → said_first (prereq_said t) (on_direction t place bytes was_turned side) ≡ on_prereq t place bytes was_turned side
  prereq-warns is forced = warns (lacks_word t.item.patch.header.prereq bytes) t.options.force (prereq_said t) (on_direction t place bytes was_turned side) (skips_at (prereq_said t) place side bytes) is forced

  pub prereq-stops : lacks_word t.item.patch.header.prereq bytes ≡ true → t.options.force ≡ false → on_prereq t place bytes was_turned side ≡ skips_at (prereq_said t) place side bytes
  prereq-stops is calm = stops (lacks_word t.item.patch.header.prereq bytes) t.options.force (prereq_said t) (on_direction t place bytes was_turned side) (skips_at (prereq_said t) place side bytes) is calm

  -- what is said behind the line on the word
  abbrev pub behind_prereq : List ℕ
  behind_prereq = if t.options.force then said_in (on_direction t place bytes was_turned side) else []

  pub prereq-speaks : lacks_word t.item.patch.header.prereq bytes ≡ true → said_in (on_prereq t place bytes was_turned side) ≡ prereq_said t ++ behind_prereq
  prereq-speaks is = speaks (lacks_word t.item.patch.header.prereq bytes) t.options.force (prereq_said t) (on_direction t place bytes was_turned side) (skips_at (prereq_said t) place side bytes) is refl
