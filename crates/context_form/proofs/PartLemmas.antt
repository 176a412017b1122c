-- The lines of a part that are read are spelled so, and what is spelled so is read.
use Rattle.std.proofs.Common.{◌≡◌, ℕ, zero, suc, ◌+◌, ◌<◌, Bool, true, false, cond, eqb, ◌||◌, List, [], ◌∷◌, ◌++◌, length, drop, Option, None, Some, Result, Ok, refl, sym, ap, subst, ◌∙◌, append_assoc, arith, inl, inr}
use Rattle.std.specs.Prelude.{is_some}
use Rattle.std.proofs.lemmas.Bool.{eqb-true}
use Rattle.std.proofs.lemmas.List.{length-append, append-nil}
use Rattle.std.proofs.lemmas.Option.{same_Some}
use Rattle.hunk_core.specs.declared.Mark.{Mark}
use Rattle.hunk_core.specs.declared.Mark.TheVariants as its
use Rattle.hunk_core.specs.declared.Side.{Side}
use Rattle.hunk_core.specs.declared.Side.TheVariants.{Forward, Reversed}
use Rattle.hunk_core.specs.Sides.{is_on_side, own_mark}
use Rattle.hunk_core.specs.PlainHunk.{Marked}
use Rattle.hunk_core.specs.LineTests.{after, marked, is_backslash, after_backslash}
use Rattle.hunk_core.specs.Reading.{◌>>=◌, Fault, Ahead, ahead}
use Rattle.hunk_core.proofs.ReadSteps.{bind_ok, guard_ok, must_ok, ok_is}
use Rattle.line_list.proofs.Choices.{chosen}
use Rattle.hunk_core.proofs.Agreeing.{after_backslash-some}
use Rattle.hunk_core.proofs.TextLemmas.{some-not}
use Rattle.context_form.specs.Ranges.{before_range}
use Rattle.context_form.specs.Parts.{own_byte, mark_by, mark_at, behind_blank, taken_off, shown_at, begins_new, Shown, must_be_marked, marked_at, room_at, cut, ended_by, first_line, line_at, is_done, PlainBody, with_line, body_at}
use Rattle.context_form.specs.Grammar.{mark_byte, IsEmptyLine, Shows, SpellsLine, SpellsPart, is_change, has_change}
use Rattle.context_form.proofs.MergeIs.{AllOn}

-- ---- one line

-- what a mark with its blank says of its line
pub record MarkIs (side : Side) (line : List ℕ) (m : Mark × Bool) : Type 0 where
  pub changed : Bool
  pub is : line ≡ mark_byte changed m.0 ∷ 32 ∷ drop 2 line
  pub on : is_on_side side m.0 ≡ true
  pub change : m.1 ≡ is_change line

abbrev begins : ℕ → List ℕ → List ℕ
begins b bytes = b ∷ 32 ∷ bytes

spaces-are : (side : Side) (bytes : List ℕ) → MarkIs side (begins 32 bytes) (its.Keep, false)
unfolding after
spaces-are side bytes = record { changed = false; is = refl; on = refl; change = refl }

change-is : (side : Side) (bytes : List ℕ) → MarkIs side (begins 33 bytes) (own_mark side, true)
unfolding after
change-is Forward bytes = record { changed = true; is = refl; on = refl; change = refl }
change-is Reversed bytes = record { changed = true; is = refl; on = refl; change = refl }

sign-is : (side : Side) (bytes : List ℕ) → MarkIs side (begins (own_byte side) bytes) (own_mark side, false)
unfolding after
sign-is Forward bytes = record { changed = false; is = refl; on = refl; change = refl }
sign-is Reversed bytes = record { changed = false; is = refl; on = refl; change = refl }

mark-by : (side : Side) (b : ℕ) (bytes : List ℕ) (m : Mark × Bool) → mark_by side b ≡ Some m → MarkIs side (begins b bytes) m
mark-by side b bytes m e =
    elim (chosen (eqb b 32) (Some (its.Keep, false)) _ (Some m) e) [
      | inl space ↦ is 32 (its.Keep, false) (eqb-true b 32 space.0) (same_Some _ _ space.1) (spaces-are side bytes)
      | inr e1 ↦ elim (chosen (eqb b 33) (Some (own_mark side, true)) _ (Some m) e1.1) [
        | inl mark ↦ is 33 (own_mark side, true) (eqb-true b 33 mark.0) (same_Some _ _ mark.1) (change-is side bytes)
        | inr e2 ↦ elim (chosen (eqb b (own_byte side)) (Some (own_mark side, false)) None (Some m) e2.1) [
          | inl sign ↦ is (own_byte side) (own_mark side, false) (eqb-true b (own_byte side) sign.0) (same_Some _ _ sign.1) (sign-is side bytes)
          | inr other ↦ absurd cc
        ]
      ]
    ]
  where
    is : (c : ℕ) (n : Mark × Bool) → b ≡ c → n ≡ m → MarkIs side (begins c bytes) n → MarkIs side (begins b bytes) m
    is c n same same2 h = subst (λ k. MarkIs side (begins k bytes) m) (sym same) (subst (MarkIs side (begins c bytes)) same2 h)

pub mark-takes : (side : Side) (line : List ℕ) (m : Mark × Bool) → mark_at side line ≡ Some m → MarkIs side line m
mark-takes side [] m e = absurd cc
mark-takes side (b ∷ []) m e = absurd cc
mark-takes side (b ∷ c ∷ bytes) m e =
    elim (chosen (eqb c 32) (mark_by side b) None (Some m) e) [
      | inl space ↦ subst (λ k. MarkIs side (b ∷ k ∷ bytes) m) (sym (eqb-true c 32 space.0)) (mark-by side b bytes m space.1)
      | inr other ↦ absurd cc
    ]

-- what a line of a part that was read says
pub record ShownIs (side : Side) (line : List ℕ) (s : Shown) : Type 0 where
  pub shows : begins_new (line ∷ []) ≡ false → Shows line s.0
  pub on : is_on_side side s.0.mark ≡ true
  pub change : s.1 ≡ is_change line

head-of : (b c : ℕ) (bs cs : List ℕ) → b ∷ bs ≡ c ∷ cs → b ≡ c
head-of b c bs cs e = cc

taken-takes : (side : Side) (b : ℕ) (bytes : List ℕ) (s : Shown) (o : Option (Mark × Bool)) → mark_by side b ≡ o → taken_off bytes o ≡ Some s → ShownIs side (b ∷ bytes) s
taken-takes side b bytes s None is e = absurd cc
taken-takes side b bytes s (Some m) is e =
    let k = mark-by side b bytes m is in
    let same : b ∷ bytes ≡ mark_byte k.changed m.0 ∷ bytes = ap (λ c. c ∷ bytes) (head-of b (mark_byte k.changed m.0) (32 ∷ bytes) (32 ∷ bytes) k.is) in
    subst (ShownIs side (b ∷ bytes)) (same_Some _ _ e) (record { shows = λ other. inl (k.changed, bytes, same, refl, other); on = k.on; change = k.change })

pub shown-takes : (side : Side) (line : List ℕ) (s : Shown) → shown_at side line ≡ Some s → ShownIs side line s
shown-takes side [] s e = absurd cc
shown-takes side (b ∷ bytes) s e =
    elim (chosen (eqb b 10) (Some (marked its.Keep (b ∷ bytes), false)) _ (Some s) e) [
      | inl feed ↦ subst (ShownIs side (b ∷ bytes)) (same_Some _ _ feed.1) (record { shows = λ other. inr (eqb-true b 10 feed.0, refl); on = refl; change = rw (eqb-true b 10 feed.0) refl })
      | inr mark ↦ taken-takes side b bytes s (mark_by side b) refl mark.1
    ]

pub byte-again : (side : Side) (changed : Bool) (mark : Mark) (bytes : List ℕ) → is_on_side side mark ≡ true → shown_at side (mark_byte changed mark ∷ bytes) ≡ Some (marked mark (behind_blank bytes), is_change (mark_byte changed mark ∷ bytes))
byte-again side changed its.Keep bytes on = refl
byte-again Forward true its.Drop bytes on = refl
byte-again Forward false its.Drop bytes on = refl
byte-again Forward changed its.Add bytes on = absurd cc
byte-again Reversed changed its.Drop bytes on = absurd cc
byte-again Reversed true its.Add bytes on = refl
byte-again Reversed false its.Add bytes on = refl

pub empty-again : (side : Side) (line : List ℕ) → IsEmptyLine line → shown_at side line ≡ Some (marked its.Keep line, is_change line)
empty-again side [] h = absurd h
empty-again side (b ∷ bytes) h = rw h refl

-- what shows a line is read as it
pub shown-again : (side : Side) (line : List ℕ) (m : Marked) → Shows line m → is_on_side side m.mark ≡ true → shown_at side line ≡ Some (m, is_change line)
shown-again side line m (inl h) on = rw h.2 (byte-again side h.0 m.mark h.1 on ∙ ap (λ l. Some (marked m.mark l, is_change (mark_byte h.0 m.mark ∷ h.1))) (sym h.3))
shown-again side line m (inr h) on = empty-again side line h.0 ∙ ap (λ (k : Marked). Some (k, is_change line)) (sym h.1)

-- a line of a part that isn't over doesn't begin as the range line of a new part
new-mark : (side : Side) (line : List ℕ) (s : Shown) → side ≡ Reversed → shown_at side line ≡ Some s → begins_new (line ∷ []) ≡ false
unfolding after
new-mark side [] s is e = absurd cc
new-mark side (b ∷ bytes) s is e =
    elim (chosen (eqb b 45) true false (eqb b 45) (same (eqb b 45))) [
      | inl dash ↦ absurd (let none : shown_at Reversed (45 ∷ bytes) ≡ Some s = subst (λ k. shown_at Reversed (k ∷ bytes) ≡ Some s) (eqb-true b 45 dash.0) (subst (λ k. shown_at k (b ∷ bytes) ≡ Some s) is e) in cc)
      | inr other ↦ rw other.0 refl
    ]
  where
    same : (v : Bool) → cond v true false ≡ v
    same true = refl
    same false = refl

goes-on : (side : Side) (left : ℕ) (line : List ℕ) (rest : List (List ℕ)) (s : Shown) → is_done side left (line ∷ rest) ≡ false → shown_at side line ≡ Some s → begins_new (line ∷ []) ≡ false
goes-on Forward left line rest s on e = on
goes-on Reversed left line rest s on e = new-mark Reversed line s refl e

-- a line with this mark is read with it
pub mark-again : (side : Side) (changed : Bool) (mark : Mark) (bytes : List ℕ) → is_on_side side mark ≡ true → mark_at side (mark_byte changed mark ∷ 32 ∷ bytes) ≡ Some (mark, is_change (mark_byte changed mark ∷ 32 ∷ bytes))
unfolding after
mark-again side changed its.Keep bytes on = refl
mark-again Forward true its.Drop bytes on = refl
mark-again Forward false its.Drop bytes on = refl
mark-again Forward changed its.Add bytes on = absurd cc
mark-again Reversed changed its.Drop bytes on = absurd cc
mark-again Reversed true its.Add bytes on = refl
mark-again Reversed false its.Add bytes on = refl

marked-ok : (number : ℕ) (line : List ℕ) (o : Option Shown) (s : Shown) → must_be_marked number line o ≡ Ok s → o ≡ Some s
marked-ok number line None s e = absurd cc
marked-ok number line (Some m) s e = cc

room-ok : (number left : ℕ) (m s : Shown) → room_at number left m ≡ Ok s → (0 < left) × (m ≡ s)
room-ok number zero m s e = absurd cc
room-ok number (suc left) m s e = let g = guard_ok (eqb (suc left) 0) _ m s e in (omega arith, g.1)

-- what a line took from what is ahead
pub record TakesLine (side : Side) (left : ℕ) (p : Ahead) (x : Shown × Ahead) : Type 0 where
  pub own : List (List ℕ)
  pub parts : p.rest ≡ own ++ x.1.rest
  pub number : x.1.number ≡ p.number + length own
  pub left_one : 0 < left
  pub spelled : (others : List Marked) → length others < left → SpellsLine own x.0.0 others
  pub on : is_on_side side x.0.0.mark ≡ true
  pub change : x.0.1 ≡ has_change own

none-left : (others : List Marked) → length others < 1 → others ≡ []
none-left [] e = refl
none-left (l ∷ ls) e = absurd (omega (arith, e))

backslash-no-change : (line : List ℕ) → is_backslash line ≡ true → is_change line ≡ false
unfolding after
backslash-no-change [] e = refl
backslash-no-change (b ∷ bytes) e =
    elim (chosen (eqb b 92) true false (eqb b 92) (same (eqb b 92))) [
      | inl slash ↦ subst (λ k. is_change (k ∷ bytes) ≡ false) (sym (eqb-true b 92 slash.0)) refl
      | inr other ↦ absurd (let bad : is_backslash (b ∷ bytes) ≡ false = rw other.0 refl in cc)
    ]
  where
    same : (v : Bool) → cond v true false ≡ v
    same true = refl
    same false = refl

one-change : (line : List ℕ) → has_change (line ∷ []) ≡ is_change line
one-change line = by (is_change line)
  where
    by : (b : Bool) → (b || false) ≡ b
    by true = refl
    by false = refl

two-change : (line mark : List ℕ) → is_backslash mark ≡ true → has_change (line ∷ mark ∷ []) ≡ is_change line
two-change line mark e = let quiet = backslash-no-change mark e in rw quiet (one-change line)

line_ends : (side : Side) (left number : ℕ) (line : List ℕ) (m : Shown) (rest : List (List ℕ)) (o : Option (List (List ℕ))) (x : Shown × Ahead) → 0 < left → ShownIs side line m → begins_new (line ∷ []) ≡ false → after_backslash rest ≡ o
    → ended_by m left (ahead (number + 1) rest) o ≡ Ok x → TakesLine side left (ahead number (line ∷ rest)) x
line_ends side left number line m rest None x some is other e h =
    subst (TakesLine side left (ahead number (line ∷ rest))) (ok_is _ _ h) (record {
      own = line ∷ [];
      parts = refl;
      number = refl;
      left_one = some;
      spelled = λ others few. is.shows other;
      on = is.on;
      change = is.change ∙ sym (one-change line);
    })
line_ends side left number line m rest (Some more) x some is other e h =
    let g = must_ok (eqb left 1) _ (cut m, ahead (number + 1 + 1) more) x h in
    let b = after_backslash-some rest more e in
    let one : left ≡ 1 = eqb-true left 1 g.0 in
    subst (TakesLine side left (ahead number (line ∷ rest))) g.1 (record {
      own = line ∷ b.0 ∷ [];
      parts = ap (λ (r : List (List ℕ)). line ∷ r) b.1;
      number = omega arith;
      left_one = some;
      spelled = λ others few. (b.2, none-left others (subst (λ n. length others < n) one few), m.0, is.shows other, refl);
      on = is.on;
      change = is.change ∙ sym (two-change line b.0 b.2);
    })

pub line_takes : (side : Side) (left number : ℕ) (rest : List (List ℕ)) (x : Shown × Ahead) → is_done side left rest ≡ false → first_line side left number rest ≡ Ok x → TakesLine side left (ahead number rest) x
unfolding first_line
line_takes side left number [] x on h = absurd cc
line_takes side left number (line ∷ rest) x on h =
    let a = bind_ok (marked_at number side line) (λ m. room_at number left m >>= λ one. ended_by one left (ahead (number + 1) rest) (after_backslash rest)) x h in
    let r = bind_ok (room_at number left a.0) (λ one. ended_by one left (ahead (number + 1) rest) (after_backslash rest)) x a.2 in
    let m = marked-ok number line (shown_at side line) a.0 a.1 in
    let o = room-ok number left a.0 r.0 r.1 in
    line_ends side left number line a.0 rest (after_backslash rest) x o.0 (shown-takes side line a.0 m) (goes-on side left line rest a.0 on m) refl
    (subst (λ (y : Shown). ended_by y left (ahead (number + 1) rest) (after_backslash rest) ≡ Ok x) (sym o.1) r.2)

-- ---- a part

pub record TakesBody (side : Side) (left : ℕ) (before : PlainBody) (p : Ahead) (x : PlainBody × Ahead) : Type 0 where
  pub own : List (List ℕ)
  pub part : List Marked
  pub parts : p.rest ≡ own ++ x.1.rest
  pub number : x.1.number ≡ p.number + length own
  pub is : x.0.lines ≡ before.lines ++ part
  pub change : x.0.changed ≡ (before.changed || has_change own)
  pub left_over : ℕ
  pub counts : left_over + length part ≡ left
  pub spelled : SpellsPart own part
  pub on : AllOn side part
  pub done : is_done side left_over x.1.rest ≡ true

or-none : (b : Bool) → b ≡ (b || false)
or-none true = refl
or-none false = refl

or-assoc : (a b c : Bool) → ((a || b) || c) ≡ (a || (b || c))
or-assoc true b c = refl
or-assoc false b c = refl

has-both : (xs ys : List (List ℕ)) → has_change (xs ++ ys) ≡ (has_change xs || has_change ys)
has-both [] ys = refl
has-both (x ∷ xs) ys = ap (λ b. is_change x || b) (has-both xs ys) ∙ sym (or-assoc (is_change x) (has_change xs) (has_change ys))

body_none : (side : Side) (left : ℕ) (before : PlainBody) (p : Ahead) → is_done side left p.rest ≡ true → TakesBody side left before p (before, p)
body_none side left before p e = record { own = []; part = []; parts = refl; number = omega arith; is = sym (append-nil before.lines); change = or-none before.changed; left_over = left; counts = omega arith; spelled = refl; on = tt; done = e }

body_more : (side : Side) (left : ℕ) (before : PlainBody) (p : Ahead) (x : Shown × Ahead) (y : PlainBody × Ahead) → TakesLine side (suc left) p x → TakesBody side left (with_line before x.0) x.1 y → TakesBody side (suc left) before p y
body_more side left before p x y one more = record {
  own = one.own ++ more.own;
  part = x.0.0 ∷ more.part;
  parts = one.parts ∙ ap (λ (r : List (List ℕ)). one.own ++ r) more.parts ∙ sym (append_assoc one.own more.own y.1.rest);
  number = omega (arith, one.number, more.number, length-append one.own more.own);
  is = more.is ∙ append_assoc before.lines (x.0.0 ∷ []) more.part;
  change = more.change ∙ or-assoc before.changed x.0.1 (has_change more.own) ∙ ap (λ b. before.changed || (b || has_change more.own)) one.change ∙ ap (λ b. before.changed || b) (sym (has-both one.own more.own));
  left_over = more.left_over;
  counts = omega (arith, more.counts);
  spelled = (one.own, more.own, refl, one.spelled more.part (omega (arith, more.counts)), more.spelled);
  on = (one.on, more.on);
  done = more.done;
}

pub body_takes : (side : Side) (left : ℕ) (before : PlainBody) (p : Ahead) (x : PlainBody × Ahead) → body_at side left before p ≡ Ok x → TakesBody side left before p x
unfolding body_at
body_takes side zero before p x h =
    elim (chosen (is_done side 0 p.rest) _ _ (Ok x) h) [
      | inl done ↦ subst (TakesBody side 0 before p) (ok_is _ _ done.1) (body_none side 0 before p done.0)
      | inr on ↦ absurd (let a = bind_ok (line_at side 0 p) (λ y. Ok (with_line before y.0, y.1)) x on.1 in let t = line_takes side 0 p.number p.rest a.0 on.0 a.1 in omega (arith, t.left_one))
    ]
body_takes side (suc left) before p x h =
    elim (chosen (is_done side (suc left) p.rest) _ _ (Ok x) h) [
      | inl done ↦ subst (TakesBody side (suc left) before p) (ok_is _ _ done.1) (body_none side (suc left) before p done.0)
      | inr on ↦ (
          let a = bind_ok (line_at side (suc left) p) (λ y. body_at side left (with_line before y.0) y.1) x on.1 in
          body_more side left before p a.0 x (line_takes side (suc left) p.number p.rest a.0 on.0 a.1) (body_takes side left (with_line before a.0.0) a.0.1 x a.2))
    ]

-- ---- what is spelled is read
-- how the line of a part begins
pub record Marks (line : List ℕ) : Type 0 where
  pub quiet : is_backslash line ≡ false
  pub dashes : is_some (after (before_range Reversed) line) ≡ false

mark-quiet : (changed : Bool) (mark : Mark) (bytes : List ℕ) → is_backslash (mark_byte changed mark ∷ bytes) ≡ false
unfolding after
mark-quiet changed its.Keep bytes = refl
mark-quiet true its.Drop bytes = refl
mark-quiet false its.Drop bytes = refl
mark-quiet true its.Add bytes = refl
mark-quiet false its.Add bytes = refl

empty-marks : (line : List ℕ) → IsEmptyLine line → Marks line
unfolding after
empty-marks [] h = absurd h
empty-marks (b ∷ bytes) h = record { quiet = rw h refl; dashes = rw h refl }

pub shows-marks : (line : List ℕ) (m : Marked) → Shows line m → Marks line
shows-marks line m (inl h) = record { quiet = rw h.2 (mark-quiet h.0 m.mark h.1); dashes = h.4 }
shows-marks line m (inr h) = empty-marks line h.0

-- the first of the lines that a line takes shows it
pub record First (own : List (List ℕ)) (mark : Mark) : Type 0 where
  pub line : List ℕ
  pub more : List (List ℕ)
  pub parts : own ≡ line ∷ more
  pub full : List ℕ
  pub shows : Shows line (marked mark full)

pub first-of : (own : List (List ℕ)) (m : Marked) (others : List Marked) → SpellsLine own m others → First own m.mark
first-of [] m others h = absurd h
first-of (line ∷ []) m others h = record { line = line; more = []; parts = refl; full = m.line; shows = h }
first-of (line ∷ mark ∷ []) m others h = record { line = line; more = mark ∷ []; parts = refl; full = h.2.line; shows = subst (λ k. Shows line (marked k h.2.line)) (sym (ap (λ (x : Marked). x.mark) h.4)) h.3 }
first-of (line ∷ mark ∷ other ∷ more) m others h = absurd h

starts_quiet : (own tail : List (List ℕ)) (m : Marked) (others : List Marked) → SpellsLine own m others → after_backslash (own ++ tail) ≡ None
starts_quiet own tail m others h =
    let f = first-of own m others h in
    let k = shows-marks f.line (marked m.mark f.full) f.shows in
    rw (f.parts, k.quiet) refl

starts_on : (side : Side) (left : ℕ) (own tail : List (List ℕ)) (m : Marked) (others : List Marked) → SpellsLine own m others → is_done side (suc left) (own ++ tail) ≡ false
starts_on Forward left own tail m others h =
    let f = first-of own m others h in
    let k = shows-marks f.line (marked m.mark f.full) f.shows in
    rw (f.parts, k.dashes) refl
starts_on Reversed left own tail m others h = some-not left

pub part_quiet : (part : List Marked) (piece rest : List (List ℕ)) → SpellsPart piece part → after_backslash rest ≡ None → after_backslash (piece ++ rest) ≡ None
part_quiet [] piece rest h none = rw h none
part_quiet (m ∷ part) piece rest h none = rw (h.2, append_assoc h.0 h.1 rest) (starts_quiet h.0 (h.1 ++ rest) m part h.3)

marked-again : (side : Side) (number : ℕ) (line : List ℕ) (m : Marked) → Shows line m → is_on_side side m.mark ≡ true → marked_at number side line ≡ Ok (m, is_change line)
marked-again side number line m h on = ap (must_be_marked number line) (shown-again side line m h on)

line_again : (side : Side) (own tail : List (List ℕ)) (m : Marked) (others : List Marked) (number : ℕ) → SpellsLine own m others → is_on_side side m.mark ≡ true → after_backslash tail ≡ None → first_line side (suc (length others)) number (own ++ tail) ≡ Ok ((m, has_change own), ahead (number + length own) tail)
unfolding first_line
line_again side [] tail m others number h on none = absurd h
line_again side (line ∷ []) tail m others number h on none = rw (marked-again side number line m h on, some-not (length others), none, one-change line) refl
line_again side (line ∷ mark ∷ []) tail m others number h on none =
    let two : number + 1 + 1 ≡ number + 2 = omega arith in
    let on2 : is_on_side side h.2.mark ≡ true = subst (λ k. is_on_side side k ≡ true) (ap (λ (x : Marked). x.mark) h.4) on in
    rw (h.1, marked-again side number line h.2 h.3 on2, h.0, two-change line mark h.0, h.4, two) refl
line_again side (line ∷ mark ∷ other ∷ more) tail m others number h on none = absurd h

body_on : (side : Side) (left : ℕ) (before : PlainBody) (p : Ahead) (x : Shown × Ahead) (y : Result (PlainBody × Ahead) Fault) → is_done side (suc left) p.rest ≡ false → line_at side (suc left) p ≡ Ok x → body_at side left (with_line before x.0) x.1 ≡ y → body_at side (suc left) before p ≡ y
unfolding body_at
body_on side left before p x y on one more = rw (on, one) more

abbrev pub bodied : List Marked → Bool → PlainBody
bodied ls changed = record { lines = ls; changed = changed }

body_end : (side : Side) (before : PlainBody) (p : Ahead) → is_done side 0 p.rest ≡ true → body_at side 0 before p ≡ Ok (before, p)
unfolding body_at
body_end side before p e = rw e refl

pub body_again : (side : Side) (part : List Marked) (piece rest : List (List ℕ)) (number : ℕ) (before : PlainBody) → SpellsPart piece part → AllOn side part → is_done side 0 rest ≡ true → after_backslash rest ≡ None
    → body_at side (length part) before (ahead number (piece ++ rest)) ≡ Ok (bodied (before.lines ++ part) (before.changed || has_change piece), ahead (number + length piece) rest)
body_again side [] piece rest number before h on done none =
    let same : number + 0 ≡ number = omega arith in
    let changed : (before.changed || false) ≡ before.changed = sym (or-none before.changed) in
    rw (h, same, append-nil before.lines, changed) (body_end side before (ahead number rest) done)
body_again side (m ∷ part) piece rest number before h on done none =
    let own = h.0 in
    let more = h.1 in
    let parts : piece ++ rest ≡ own ++ (more ++ rest) = ap (λ (p : List (List ℕ)). p ++ rest) h.2 ∙ append_assoc own more rest in
    let one : first_line side (suc (length part)) number (own ++ (more ++ rest)) ≡ Ok ((m, has_change own), ahead (number + length own) (more ++ rest)) = line_again side own (more ++ rest) m part number h.3 on.0 (part_quiet part more rest h.4 none) in
    let others = body_again side part more rest (number + length own) (with_line before (m, has_change own)) h.4 on.1 done none in
    let count : number + length own + length more ≡ number + length piece = omega (arith, length-append own more, ap length h.2) in
    let changed : ((before.changed || has_change own) || has_change more) ≡ (before.changed || has_change piece) = or-assoc before.changed (has_change own) (has_change more) ∙ ap (λ b. before.changed || b) (sym (has-both own more) ∙ ap has_change (sym h.2)) in
    ap (λ (p : List (List ℕ)). body_at side (suc (length part)) before (ahead number p)) parts
    ∙ body_on side (length part) before (ahead number (own ++ (more ++ rest))) ((m, has_change own), ahead (number + length own) (more ++ rest)) _ (starts_on side (length part) own (more ++ rest) m part h.3) one others
    ∙ rw (append_assoc before.lines (m ∷ []) part, changed, count) refl
