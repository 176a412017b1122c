-- The two parts of a hunk are read without a look behind where they stop, but for the line there.
use Rattle.std.proofs.Common.{◌≡◌, ◌≢◌, ℕ, zero, suc, ◌-◌, ◌&&◌, ◌||◌, ◌+◌, Bool, true, false, cond, eqb, ltb, List, [], ◌∷◌, Option, None, Some, Result, Ok, Err, refl, ap, subst, ◌∙◌, arith}
use Rattle.hunk_core.specs.declared.BadKind.{BadKind}
use Rattle.hunk_core.specs.declared.BadKind.TheVariants as kinds
use Rattle.hunk_core.specs.declared.Mark.{Mark}
use Rattle.hunk_core.specs.declared.Side.{Side}
use Rattle.hunk_core.specs.declared.Side.TheVariants.{Forward, Reversed}
use Rattle.hunk_core.specs.PlainHunk.{Marked}
use Rattle.hunk_core.specs.LineTests.{after_backslash}
use Rattle.hunk_core.specs.Reading.{◌>>=◌, Fault, fault, Ahead, ahead}
use Rattle.num_text.specs.declared.range.NumberRange.{NumberRange}
use Rattle.hunk_core.specs.Refusals.{unmarked}
use Rattle.hunk_core.proofs.FaultSteps.{failed, with_rest, err_is, assoc, here-is, unmarked-kind}
use Rattle.hunk_core.proofs.Steady.{one_line, FailsHere, peek_by}
use Rattle.context_form.specs.declared.range.Stated.{Stated}
use Rattle.context_form.specs.Ranges.{is_bad_range, is_too_large, stated, from_numbers, numbers_at, range_line, most}
use Rattle.context_form.specs.Parts.{shown_at, Shown, must_be_marked, marked_at, room_at, cut, ended_by, first_line, line_at, is_done, PlainBody, no_body, with_line, body_at}
use Rattle.context_form.specs.Presence.{is_there, begins_shown, is_needed, is_new, begins_old_part}
use Rattle.context_form.specs.Hunks.{PlainPart, fitting, at_line, first_range, old_part, too_few, enough, new_count, new_part, parts_at}
use Rattle.hunk_core.proofs.Steady.{steady-then, steady-value, steady-same}
use Rattle.context_form.proofs.Steady.{Steady, LooksAhead, steady-test, steady-line, steady-before, steady-peek}

-- ---- lines
abbrev taken_line : Side → ℕ → ℕ → List ℕ → Result Shown Fault
taken_line side left number line = marked_at number side line >>= λ m. room_at number left m

taken-here : (side : Side) (left : ℕ) → FailsHere (taken_line side left)
taken-here side left number line e h = by (shown_at side line) h
  where
    room : (m : Shown) (b : Bool) → cond b (Err (fault number kinds.Count)) (Ok m) ≡ failed {A = Shown} e → (e.line ≡ number) × (e.kind ≢ kinds.ShortEnd)
    room m true k = here-is number kinds.Count e (λ z. cc) (err_is {A = Shown} _ e k)
    room m false k = absurd cc

    by : (o : Option Shown) → (must_be_marked number line o >>= λ m. room_at number left m) ≡ Err e → (e.line ≡ number) × (e.kind ≢ kinds.ShortEnd)
    by None k = here-is number (unmarked line) e (unmarked-kind line) (err_is {A = Shown} _ e k)
    by (Some m) k = room _ (eqb left 0) k

abbrev ended : ℕ → Shown → Ahead → Result (Shown × Ahead) Fault
ended left m q = peek_by m (cond (eqb left 1) (Some (cut m)) None) q (after_backslash q.rest)

ended-same : (left : ℕ) (m : Shown) (q : Ahead) (o : Option (List (List ℕ))) → peek_by m (cond (eqb left 1) (Some (cut m)) None) q o ≡ ended_by m left q o
ended-same left m q None = by (eqb left 1)
  where
    by : (b : Bool) → peek_by m (cond b (Some (cut m)) None) q None ≡ Ok (m, q)
    by true = refl
    by false = refl
ended-same left m q (Some more) = by (eqb left 1)
  where
    by : (b : Bool) → peek_by m (cond b (Some (cut m)) None) q (Some more) ≡ cond b (Ok (cut m, ahead (q.number + 1) more)) (Err (fault q.number kinds.MisplacedBackslash))
    by true = refl
    by false = refl

line-same : (side : Side) (left number : ℕ) (lines : List (List ℕ)) → (one_line (taken_line side left) number lines >>= λ x. ended left x.0 x.1) ≡ first_line side left number lines
unfolding first_line
line-same side left number [] = refl
line-same side left number (line ∷ rest) = assoc (taken_line side left number line) (ahead (number + 1) rest) (ended left) ∙ by (marked_at number side line)
  where
    inner : (r : Result Shown Fault) → (r >>= λ m. ended left m (ahead (number + 1) rest)) ≡ (r >>= λ one. ended_by one left (ahead (number + 1) rest) (after_backslash rest))
    inner (Ok m) = ended-same left m (ahead (number + 1) rest) (after_backslash rest)
    inner (Err d) = refl

    by : (r : Result Shown Fault) → ((r >>= λ m. room_at number left m) >>= λ m. ended left m (ahead (number + 1) rest)) ≡ (r >>= λ m. room_at number left m >>= λ one. ended_by one left (ahead (number + 1) rest) (after_backslash rest))
    by (Ok m) = inner (room_at number left m)
    by (Err d) = refl

steady-shown : (side : Side) (left : ℕ) → Steady (line_at side left)
steady-shown side left = steady-same (λ p. one_line (taken_line side left) p.number p.rest >>= λ x. ended left x.0 x.1) (line_at side left) (λ p. line-same side left p.number p.rest)
    (steady-then (λ p. one_line (taken_line side left) p.number p.rest) (ended left) (steady-line (taken_line side left) (taken-here side left)) (λ m. steady-peek m (cond (eqb left 1) (Some (cut m)) None)))

-- ---- the lines of a part

done-looks : (side : Side) (left : ℕ) → LooksAhead (is_done side left)
done-looks Forward left = record { same = λ line rest others. refl }
done-looks Reversed left = record { same = λ line rest others. refl }

pub steady-body : (side : Side) (left : ℕ) (before : PlainBody) → Steady (body_at side left before)
unfolding body_at
steady-body side zero before = steady-test (is_done side 0) (λ p. Ok (before, p)) (λ p. line_at side 0 p >>= λ x. Ok (with_line before x.0, x.1)) (done-looks side 0) (steady-value before) (steady-then (line_at side 0) (λ m p. Ok (with_line before m, p)) (steady-shown side 0) (λ m. steady-value (with_line before m)))
steady-body side (suc left) before = steady-test (is_done side (suc left)) (λ p. Ok (before, p)) (λ p. line_at side (suc left) p >>= λ x. body_at side left (with_line before x.0) x.1) (done-looks side (suc left)) (steady-value before) (steady-then (line_at side (suc left)) (λ m. body_at side left (with_line before m)) (steady-shown side (suc left)) (λ m. steady-body side left (with_line before m)))

-- ---- range lines

range-kind : (side : Side) (least : ℕ) (line : List ℕ) (kind : BadKind) → range_line side least line ≡ Err kind → kind ≢ kinds.ShortEnd
range-kind side least line kind h = by (numbers_at side line) h
  where
    is : (k : BadKind) → (x : Result Stated BadKind) → x ≡ Err k → k ≢ kinds.ShortEnd → x ≡ Err kind → kind ≢ kinds.ShortEnd
    is k x e ne f = subst (λ z. z ≢ kinds.ShortEnd) (let same : k ≡ kind = cc in same) ne

    order : (r : NumberRange) (b : Bool) → cond b (Err kinds.HunkOrder) (Ok (stated r)) ≡ Err kind → kind ≢ kinds.ShortEnd
    order r true h = is kinds.HunkOrder (Err kinds.HunkOrder) refl (λ z. cc) h
    order r false h = absurd cc

    large : (r : NumberRange) (b : Bool) → cond b (Err kinds.NumberTooLarge) (cond (ltb r.first least) (Err kinds.HunkOrder) (Ok (stated r))) ≡ Err kind → kind ≢ kinds.ShortEnd
    large r true h = is kinds.NumberTooLarge (Err kinds.NumberTooLarge) refl (λ z. cc) h
    large r false h = order r (ltb r.first least) h

    bad : (r : NumberRange) (b : Bool) → cond b (Err kinds.Range) (cond (is_too_large r) (Err kinds.NumberTooLarge) (cond (ltb r.first least) (Err kinds.HunkOrder) (Ok (stated r)))) ≡ Err kind → kind ≢ kinds.ShortEnd
    bad r true h = is kinds.Range (Err kinds.Range) refl (λ z. cc) h
    bad r false h = large r (is_too_large r) h

    by : (o : Option NumberRange) → from_numbers least o ≡ Err kind → kind ≢ kinds.ShortEnd
    by None h = is kinds.Range (Err kinds.Range) refl (λ z. cc) h
    by (Some r) h = bad r (is_bad_range r) h

abbrev guarded : Bool → ℕ → BadKind → Result (Unit {0}) Fault
guarded b number kind = cond b (Err (fault number kind)) (Ok tt)

abbrev and_ahead : Ahead → Stated → Result (Stated × Ahead) Fault
and_ahead q s = Ok (s, q)

-- what a range line states, with its number
abbrev numbered : ℕ → Stated → Result (ℕ × Stated) Fault
numbered number s = Ok (number, s)

abbrev old_range : ℕ → ℕ → List ℕ → Result (ℕ × Stated) Fault
old_range least number line = at_line number (range_line Forward least line) >>= λ s. numbered number s

old-here : (least : ℕ) → FailsHere (old_range least)
old-here least number line e h = by (range_line Forward least line) refl h
  where
    by : (o : Result Stated BadKind) → range_line Forward least line ≡ o → (at_line number o >>= λ s. numbered number s) ≡ Err e → (e.line ≡ number) × (e.kind ≢ kinds.ShortEnd)
    by (Ok s) is k = absurd cc
    by (Err kind) is k = here-is number kind e (range-kind Forward least line kind is) (err_is {A = ℕ × Stated} _ e k)

abbrev part_with : ℕ × Stated → PlainBody → PlainPart
part_with s b = record { number = s.0; stated = s.1; body = b }

-- the first line of a part behind one number
abbrev large_test : (List (List ℕ) → Bool) → Stated → List (List ℕ) → Bool
large_test there s rest = there rest && ltb 4294967295 (s.start + most s)

abbrev checked_line : (List (List ℕ) → Bool) → ℕ × Stated → Ahead → Result ((ℕ × Stated) × Ahead) Fault
checked_line there s q = cond (large_test there s.1 q.rest) (Err (fault (q.number - 1) kinds.NumberTooLarge)) (Ok (s, q))

large-looks : (there : List (List ℕ) → Bool) (s : Stated) → LooksAhead there → LooksAhead (large_test there s)
large-looks there s looks = record { same = λ line rest others. ap (λ b. b && ltb 4294967295 (s.start + most s)) (looks.same line rest others) }

steady-checked : (there : List (List ℕ) → Bool) (s : ℕ × Stated) → LooksAhead there → Steady (checked_line there s)
steady-checked there s looks = steady-test (large_test there s.1) (λ q. Err (fault (q.number - 1) kinds.NumberTooLarge)) (λ q. Ok (s, q)) (large-looks there s.1 looks) (steady-before kinds.NumberTooLarge refl (λ h. cc)) (steady-value s)

-- the same behind the range line
checked-same : {B : Type 0} (b : Bool) (number : ℕ) (s : ℕ × Stated) (q : Ahead) (g : (ℕ × Stated) × Ahead → Result (B × Ahead) Fault) → q.number - 1 ≡ number → (cond b (Err (fault (q.number - 1) kinds.NumberTooLarge)) (Ok (s, q)) >>= g) ≡ (guarded b number kinds.NumberTooLarge >>= λ fits. g (s, q))
checked-same true number s q g e = ap (λ n. Err (fault n kinds.NumberTooLarge)) e
checked-same false number s q g e = refl

one-less : (n : ℕ) → n + 1 - 1 ≡ n
one-less n = omega arith

abbrev old_body : ℕ × Stated → Ahead → Result (PlainPart × Ahead) Fault
old_body s q = body_at Forward (most s.1) no_body q >>= λ b. Ok (part_with s b.0, b.1)

abbrev old_rest : ℕ × Stated → Ahead → Result (PlainPart × Ahead) Fault
old_rest s q = checked_line begins_old_part s q >>= λ x. old_body x.0 x.1

old-same : (least number : ℕ) (lines : List (List ℕ)) → (one_line (old_range least) number lines >>= λ x. old_rest x.0 x.1) ≡ old_part least (ahead number lines)
unfolding old_part first_range
old-same least number [] = refl
old-same least number (line ∷ rest) = by (at_line number (range_line Forward least line))
  where
    by : (r : Result Stated Fault) → (((r >>= λ s. numbered number s) >>= with_rest (ahead (number + 1) rest)) >>= λ x. old_rest x.0 x.1)
        ≡ ((r >>= and_ahead (ahead (number + 1) rest)) >>= λ s. fitting number s.0 (begins_old_part s.1.rest) >>= λ fits. body_at Forward (most s.0) no_body s.1 >>= λ b. Ok (part_with (number, s.0) b.0, b.1))
    by (Ok s) = checked-same (large_test begins_old_part s rest) number (number, s) (ahead (number + 1) rest) (λ x. old_body x.0 x.1) (one-less number)
    by (Err d) = refl

marked-looks : LooksAhead begins_old_part
marked-looks = record { same = λ line rest others. refl }

pub steady-old : (least : ℕ) → Steady (old_part least)
steady-old least = steady-same (λ p. one_line (old_range least) p.number p.rest >>= λ x. old_rest x.0 x.1) (old_part least) (λ p. old-same least p.number p.rest)
    (steady-then (λ p. one_line (old_range least) p.number p.rest) old_rest (steady-line (old_range least) (old-here least)) (λ s. steady-then (checked_line begins_old_part s) old_body (steady-checked begins_old_part s marked-looks) (λ t. steady-then (body_at Forward (most t.1) no_body) (λ b q. Ok (part_with t b, q)) (steady-body Forward (most t.1) no_body) (λ b. steady-value (part_with t b)))))

-- ---- the new part

abbrev new_range : ℕ → List ℕ → Result (ℕ × Stated) Fault
new_range number line = at_line number (range_line Reversed 0 line) >>= λ s. numbered number s

new-here : FailsHere new_range
new-here number line e h = by (range_line Reversed 0 line) refl h
  where
    by : (o : Result Stated BadKind) → range_line Reversed 0 line ≡ o → (at_line number o >>= λ s. numbered number s) ≡ Err e → (e.line ≡ number) × (e.kind ≢ kinds.ShortEnd)
    by (Ok s) is k = absurd cc
    by (Err kind) is k = here-is number kind e (range-kind Reversed 0 line kind is) (err_is {A = ℕ × Stated} _ e k)

-- the old part has its lines
abbrev enough_line : PlainPart → ℕ × Stated → Ahead → Result ((ℕ × Stated) × Ahead) Fault
enough_line old s q = cond (too_few old.stated old.body.lines) (Err (fault (q.number - 1) kinds.Count)) (Ok (s, q))

steady-enough : (old : PlainPart) (s : ℕ × Stated) → Steady (enough_line old s)
steady-enough old s = steady-test (λ rest. too_few old.stated old.body.lines) (λ q. Err (fault (q.number - 1) kinds.Count)) (λ q. Ok (s, q)) (record { same = λ line rest others. refl }) (steady-before kinds.Count refl (λ h. cc)) (steady-value s)

enough-same : {B : Type 0} (b : Bool) (number : ℕ) (s : ℕ × Stated) (q : Ahead) (g : (ℕ × Stated) × Ahead → Result (B × Ahead) Fault) → q.number - 1 ≡ number → (cond b (Err (fault (q.number - 1) kinds.Count)) (Ok (s, q)) >>= g) ≡ (guarded b number kinds.Count >>= λ few. g (s, q))
enough-same true number s q g e = ap (λ n. Err (fault n kinds.Count)) e
enough-same false number s q g e = refl

abbrev new_body : PlainPart → ℕ × Stated → Ahead → Result (PlainPart × Ahead) Fault
new_body old s q = body_at Reversed (new_count s.1 old.body q.rest) no_body q >>= λ b. Ok (part_with s b.0, b.1)

abbrev new_counted : PlainPart → ℕ × Stated → Ahead → Result (PlainPart × Ahead) Fault
new_counted old s q = enough_line old s q >>= λ x. new_body old x.0 x.1

abbrev new_rest : PlainPart → ℕ × Stated → Ahead → Result (PlainPart × Ahead) Fault
new_rest old s q = checked_line (is_new s.1 old.body) s q >>= λ x. new_counted old x.0 x.1

new-same : (old : PlainPart) (number : ℕ) (lines : List (List ℕ)) → (one_line new_range number lines >>= λ x. new_rest old x.0 x.1) ≡ new_part old (ahead number lines)
unfolding new_part first_range
new-same old number [] = refl
new-same old number (line ∷ rest) = by (at_line number (range_line Reversed 0 line))
  where
    inner : (s : Stated) (r : Result (Unit {0}) Fault) → (r >>= λ fits. new_counted old (number, s) (ahead (number + 1) rest)) ≡ (r >>= λ fits. enough number old >>= λ few. body_at Reversed (new_count s old.body rest) no_body (ahead (number + 1) rest) >>= λ b. Ok (part_with (number, s) b.0, b.1))
    inner s (Ok x) = enough-same (too_few old.stated old.body.lines) number (number, s) (ahead (number + 1) rest) (λ x. new_body old x.0 x.1) (one-less number)
    inner s (Err d) = refl

    by : (r : Result Stated Fault) → (((r >>= λ s. numbered number s) >>= with_rest (ahead (number + 1) rest)) >>= λ x. new_rest old x.0 x.1)
        ≡ ((r >>= and_ahead (ahead (number + 1) rest)) >>= λ s. fitting number s.0 (is_new s.0 old.body s.1.rest) >>= λ fits. enough number old >>= λ few. body_at Reversed (new_count s.0 old.body s.1.rest) no_body s.1 >>= λ b. Ok (part_with (number, s.0) b.0, b.1))
    by (Ok s) = checked-same (large_test (is_new s old.body) s rest) number (number, s) (ahead (number + 1) rest) (λ x. new_counted old x.0 x.1) (one-less number) ∙ inner s (fitting number s (is_new s old.body rest))
    by (Err d) = refl

there-same : (s : Stated) (olds : List Marked) (line : List ℕ) (rest others : List (List ℕ)) → is_there s olds (line ∷ rest) ≡ is_there s olds (line ∷ others)
there-same s olds line rest others = by s.start s.count
  where
    by : (start : ℕ) (o : Option ℕ) → is_there (record { start = start; count = o }) olds (line ∷ rest) ≡ is_there (record { start = start; count = o }) olds (line ∷ others)
    by start None = refl
    by start (Some n) = refl

new-looks : (s : Stated) (old : PlainBody) → LooksAhead (is_new s old)
new-looks s old = record { same = λ line rest others. ap (λ b. b || (is_needed s old && begins_shown (line ∷ rest))) (there-same s old.lines line rest others) }

counted-by : (n : ℕ) (b : Bool) (q : Ahead) → cond b (body_at Reversed n no_body q) (body_at Reversed 0 no_body q) ≡ body_at Reversed (cond b n 0) no_body q
counted-by n true q = refl
counted-by n false q = refl

steady-counted : (s : Stated) (old : PlainBody) → Steady (λ q. body_at Reversed (new_count s old q.rest) no_body q)
steady-counted s old = steady-same (λ q. cond (is_new s old q.rest) (body_at Reversed (most s) no_body q) (body_at Reversed 0 no_body q)) (λ q. body_at Reversed (new_count s old q.rest) no_body q) (λ q. counted-by (most s) (is_new s old q.rest) q)
    (steady-test (is_new s old) (body_at Reversed (most s) no_body) (body_at Reversed 0 no_body) (new-looks s old) (steady-body Reversed (most s) no_body) (steady-body Reversed 0 no_body))

pub steady-new : (old : PlainPart) → Steady (new_part old)
steady-new old = steady-same (λ p. one_line new_range p.number p.rest >>= λ x. new_rest old x.0 x.1) (new_part old) (λ p. new-same old p.number p.rest)
    (steady-then (λ p. one_line new_range p.number p.rest) (new_rest old) (steady-line new_range new-here) (λ s. steady-then (checked_line (is_new s.1 old.body) s) (new_counted old) (steady-checked (is_new s.1 old.body) s (new-looks s.1 old.body))
    (λ t. steady-then (enough_line old t) (new_body old) (steady-enough old t) (λ u. steady-then (λ q. body_at Reversed (new_count u.1 old.body q.rest) no_body q) (λ b q. Ok (part_with u b, q)) (steady-counted u.1 old.body) (λ b. steady-value (part_with u b))))))

-- ---- both

abbrev both_parts : PlainPart × PlainPart → Ahead → Result ((PlainPart × PlainPart) × Ahead) Fault
both_parts x q = Ok (x, q)

pub steady-parts : (least : ℕ) → Steady (parts_at least)
unfolding parts_at
steady-parts least = steady-then (old_part least) (λ old q. new_part old q >>= λ new. both_parts (old, new.0) new.1) (steady-old least) (λ old. steady-then (new_part old) (λ new. both_parts (old, new)) (steady-new old) (λ new. steady-value (old, new)))
