-- Each part with its range line that is spelled is read.
use Rattle.std.proofs.Common.{◌≡◌, ℕ, ◌+◌, ◌^◌, ◌<◌, ◌≤◌, Bool, true, false, cond, eqb, ltb, ◌&&◌, ◌||◌, not, List, [], ◌∷◌, ◌++◌, length, None, Some, Ok, refl, sym, ap, subst, ◌∙◌, append_assoc, arith}
use Rattle.std.proofs.lemmas.Bool.{le-ltb, ne_eqb}
use Rattle.std.proofs.lemmas.List.{length-append}
use Rattle.hunk_core.specs.declared.Mark.{Mark}
use Rattle.hunk_core.specs.declared.Side.{Side}
use Rattle.hunk_core.specs.declared.Side.TheVariants.{Forward, Reversed}
use Rattle.hunk_core.specs.Sides.{is_on_side}
use Rattle.hunk_core.specs.PlainHunk.{Marked}
use Rattle.hunk_core.specs.Turned.{is_keep}
use Rattle.hunk_core.specs.LineTests.{after_backslash}
use Rattle.hunk_core.specs.Reading.{ahead}
use Rattle.hunk_core.proofs.SideLemmas.{hunk_is}
use Rattle.context_form.specs.declared.range.Stated.{Stated}
use Rattle.context_form.specs.Ranges.{range_line, most, is_count}
use Rattle.context_form.specs.Parts.{PlainBody, no_body, body_at, begins_new, is_done}
use Rattle.context_form.specs.Merging.{kept_count, size_by, joined, part_of, DropsFirst}
use Rattle.context_form.specs.Hunks.{fitting, PlainPart, first_range, old_part, enough, new_count, new_part, sized, whole}
use Rattle.context_form.specs.Presence.{is_there, begins_shown, is_new, begins_old_part}
use Rattle.context_form.specs.Grammar.{SpellsRange, SpellsPart, has_change, SpellsSide, stated_as, written, told_by}
use Rattle.context_form.proofs.Halves.{new-front}
use Rattle.context_form.proofs.MergeIs.{AllOn}
use Rattle.context_form.proofs.Loops.{body_done}
use Rattle.context_form.proofs.RangeGrammar.{line-again, most-again, count-again}
use Rattle.context_form.proofs.PartLemmas.{body_again, bodied}
use Rattle.context_form.proofs.JoinLemmas.{of-all, join-again, size-again}

abbrev pub parted : ℕ → Stated → PlainBody → PlainPart
parted number s b = record { number = number; stated = s; body = b }

range-step : (side : Side) (least number : ℕ) (line : List ℕ) (rest : List (List ℕ)) (s : Stated) → range_line side least line ≡ Ok s → first_range side least number (line ∷ rest) ≡ Ok (s, ahead (number + 1) rest)
unfolding first_range
range-step side least number line rest s e = rw e refl

-- a part that is written or left out is read
pub side_again : (side : Side) (own partner : List (List ℕ)) (body : List Marked) (tail : List (List ℕ)) (left number : ℕ) → SpellsSide side own partner body → after_backslash tail ≡ None → (own ≡ [] → is_done side left tail ≡ true) → (0 < length own → left ≡ length (part_of side body)) → is_done side 0 tail ≡ true
    → body_at side left no_body (ahead number (own ++ tail)) ≡ Ok (bodied (written side own body) (has_change own), ahead (number + length own) tail)
side_again side [] partner body tail left number s none empty full done =
    let same : number + 0 ≡ number = omega arith in
    rw same (body_done side left no_body (ahead number tail) (empty refl))
side_again side (line ∷ own) partner body tail left number s none empty full done =
    let all : left ≡ length (part_of side body) = full (omega arith) in
    rw all (body_again side (part_of side body) (line ∷ own) tail number no_body s (of-all side body) done none)

some-side : (side : Side) (own partner : List (List ℕ)) (body : List Marked) → SpellsSide side own partner body → 0 < length own → 0 < length (part_of side body)
some-side side [] partner body s some = absurd (omega (arith, some))
some-side side (line ∷ own) partner body s some = by (part_of side body) s
  where
    by : (part : List Marked) → SpellsPart (line ∷ own) part → 0 < length part
    by [] t = absurd (let bad : line ∷ own ≡ [] = t in cc)
    by (m ∷ part) t = omega arith

-- ---- numbers that fit

start-is : (single : Bool) (start n : ℕ) → (stated_as single start n).start ≡ start
start-is true start n = refl
start-is false start n = refl

fitting-small : (number : ℕ) (s : Stated) (there : Bool) → ltb 4294967295 (s.start + most s) ≡ false → fitting number s there ≡ Ok tt
fitting-small number s true e = rw e refl
fitting-small number s false e = refl

fitting-none : (number : ℕ) (s : Stated) (there : Bool) → there ≡ false → fitting number s there ≡ Ok tt
fitting-none number s there e = rw e refl

-- a part that is written has numbers that fit
fitting-again : (side : Side) (number : ℕ) (line : List ℕ) (single : Bool) (start n : ℕ) (there : Bool) → SpellsRange side line single start n → start + n < 2 ^ 32 → 0 < n → fitting number (stated_as single start n) there ≡ Ok tt
fitting-again side number line single start n there r fits some =
    let sum : (stated_as single start n).start + most (stated_as single start n) ≡ start + n = omega (arith, start-is single start n, most-again side line single start n r some) in
    fitting-small number (stated_as single start n) there (le-ltb 4294967295 ((stated_as single start n).start + most (stated_as single start n)) (omega (arith, sum, fits)))

-- ---- the old part

old-step : (least number after : ℕ) (line : List ℕ) (rest tail : List (List ℕ)) (s : Stated) (b : PlainBody) → range_line Forward least line ≡ Ok s → fitting number s (begins_old_part rest) ≡ Ok tt → body_at Forward (most s) no_body (ahead (number + 1) rest) ≡ Ok (b, ahead after tail) → old_part least (ahead number (line ∷ rest)) ≡ Ok (parted number s b, ahead after tail)
unfolding old_part
old-step least number after line rest tail s b e1 e2 e3 = rw (range-step Forward least number line rest s e1, e2, e3) refl

old-fits : (number : ℕ) (line : List ℕ) (single : Bool) (start : ℕ) (own partner : List (List ℕ)) (body : List Marked) (tail : List (List ℕ)) → SpellsRange Forward line single start (length (part_of Forward body)) → start + length (part_of Forward body) < 2 ^ 32
    → SpellsSide Forward own partner body → begins_old_part tail ≡ false → fitting number (stated_as single start (length (part_of Forward body))) (begins_old_part (own ++ tail)) ≡ Ok tt
old-fits number line single start [] partner body tail r fits s unmarked = fitting-none number (stated_as single start (length (part_of Forward body))) (begins_old_part tail) unmarked
old-fits number line single start (l ∷ own) partner body tail r fits s unmarked = fitting-again Forward number line single start (length (part_of Forward body)) (begins_old_part ((l ∷ own) ++ tail)) r fits (some-side Forward (l ∷ own) partner body s (omega arith))

pub old-again : (least number : ℕ) (line : List ℕ) (single : Bool) (start : ℕ) (own partner : List (List ℕ)) (body : List Marked) (tail : List (List ℕ)) → SpellsRange Forward line single start (length (part_of Forward body)) → start + length (part_of Forward body) < 2 ^ 32 → least ≤ start
    → SpellsSide Forward own partner body → begins_new tail ≡ true → after_backslash tail ≡ None → begins_old_part tail ≡ false
    → old_part least (ahead number (line ∷ (own ++ tail))) ≡ Ok (parted number (stated_as single start (length (part_of Forward body))) (bodied (written Forward own body) (has_change own)), ahead (number + 1 + length own) tail)
old-again least number line single start own partner body tail r fits order s begins none unmarked =
    let n = length (part_of Forward body) in
    old-step least number (number + 1 + length own) line (own ++ tail) tail (stated_as single start n) (bodied (written Forward own body) (has_change own)) (line-again Forward least line single start n r fits order) (old-fits number line single start own partner body tail r fits s unmarked)
    (side_again Forward own partner body tail (most (stated_as single start n)) (number + 1) s none (λ e. begins) (λ some. most-again Forward line single start n r (some-side Forward own partner body s some)) begins)

-- ---- the new part

enough-again : (number at : ℕ) (line : List ℕ) (single : Bool) (start : ℕ) (own : List (List ℕ)) (body : List Marked) (changed : Bool) → SpellsRange Forward line single start (length (part_of Forward body)) → enough at (parted number (stated_as single start (length (part_of Forward body))) (bodied (written Forward own body) changed)) ≡ Ok tt
enough-again number at line single start [] body changed r = refl
enough-again number at line single start (l ∷ own) body changed r = by (part_of Forward body) (count-again Forward line single start (length (part_of Forward body)) r)
  where
    by : (part : List Marked) → is_count (stated_as single start (length part)) (length part) ≡ true → enough at (parted number (stated_as single start (length part)) (bodied part changed)) ≡ Ok tt
    by [] e = refl
    by (m ∷ part) e = rw e refl

-- a new part that is left out isn't new
none-new : (line : List ℕ) (single : Bool) (start : ℕ) (old : List (List ℕ)) (body : List Marked) (tail : List (List ℕ)) → SpellsRange Reversed line single start (length (part_of Reversed body)) → SpellsSide Forward old [] body → SpellsSide Reversed [] old body → 0 < length old
    → is_there (stated_as single start (length (part_of Reversed body))) (written Forward old body) tail ≡ false → is_new (stated_as single start (length (part_of Reversed body))) (told_by Forward old body) tail ≡ false
none-new line single start [] body tail r s t some none = absurd (omega (arith, some))
none-new line single start (l ∷ old) body tail r s t some none =
    let n = length (part_of Reversed body) in
    let st = stated_as single start n in
    let olds = part_of Forward body in
    let size : kept_count olds ≡ n = size-again Reversed Forward [] (l ∷ old) body t some in
    let count : is_count st (kept_count olds) ≡ true = ap (is_count st) size ∙ count-again Reversed line single start n r in
    let there : eqb (length olds) 0 ≡ false = ne_eqb (length olds) 0 (λ z. absurd (omega (arith, z, some-side Forward (l ∷ old) [] body s some))) in
    by (is_there st olds tail) (not (eqb (most st) 0)) (has_change (l ∷ old)) (eqb (length olds) 0) (is_count st (kept_count olds)) (begins_shown tail) none t.1 there count
  where
    by : (a b c d e f : Bool) → a ≡ false → c ≡ false → d ≡ false → e ≡ true → (a || ((b && (c || (d || not e))) && f)) ≡ false
    by a true c d e f h1 h2 h3 h4 = rw (h1, h2, h3, h4) refl
    by a false c d e f h1 h2 h3 h4 = rw h1 refl

new-step : (old : PlainPart) (number after : ℕ) (line : List ℕ) (rest tail : List (List ℕ)) (s : Stated) (b : PlainBody) → range_line Reversed 0 line ≡ Ok s → fitting number s (is_new s old.body rest) ≡ Ok tt → enough number old ≡ Ok tt → body_at Reversed (new_count s old.body rest) no_body (ahead (number + 1) rest) ≡ Ok (b, ahead after tail)
    → new_part old (ahead number (line ∷ rest)) ≡ Ok (parted number s b, ahead after tail)
unfolding new_part
new-step old number after line rest tail s b e1 e2 e3 e4 = rw (range-step Reversed 0 number line rest s e1, e2, e3, e4) refl

new-fits : (at : ℕ) (line : List ℕ) (single : Bool) (start : ℕ) (old : PlainBody) (new partner : List (List ℕ)) (body : List Marked) (tail : List (List ℕ)) → SpellsRange Reversed line single start (length (part_of Reversed body)) → start + length (part_of Reversed body) < 2 ^ 32 → SpellsSide Reversed new partner body
    → (new ≡ [] → is_new (stated_as single start (length (part_of Reversed body))) old tail ≡ false) → fitting at (stated_as single start (length (part_of Reversed body))) (is_new (stated_as single start (length (part_of Reversed body))) old (new ++ tail)) ≡ Ok tt
new-fits at line single start old [] partner body tail r fits s none = fitting-none at (stated_as single start (length (part_of Reversed body))) (is_new (stated_as single start (length (part_of Reversed body))) old tail) (none refl)
new-fits at line single start old (l ∷ new) partner body tail r fits s none = fitting-again Reversed at line single start (length (part_of Reversed body)) (is_new (stated_as single start (length (part_of Reversed body))) old ((l ∷ new) ++ tail)) r fits (some-side Reversed (l ∷ new) partner body s (omega arith))

count-there : (s : Stated) (old : PlainBody) (rest : List (List ℕ)) → is_new s old rest ≡ true → new_count s old rest ≡ most s
count-there s old rest e = ap (λ b. cond b (most s) 0) e

count-none : (s : Stated) (old : PlainBody) (rest : List (List ℕ)) → is_new s old rest ≡ false → new_count s old rest ≡ 0
count-none s old rest e = ap (λ b. cond b (most s) 0) e

pub new-again : (number at : ℕ) (old_line : List ℕ) (old_single : Bool) (old_start : ℕ) (line : List ℕ) (single : Bool) (start : ℕ) (old new : List (List ℕ)) (body : List Marked) (tail : List (List ℕ)) → SpellsRange Forward old_line old_single old_start (length (part_of Forward body))
    → SpellsRange Reversed line single start (length (part_of Reversed body)) → start + length (part_of Reversed body) < 2 ^ 32 → SpellsSide Forward old new body → SpellsSide Reversed new old body → after_backslash tail ≡ None → 0 < length (old ++ new)
    → (0 < length new → is_new (stated_as single start (length (part_of Reversed body))) (told_by Forward old body) new ≡ true)
    → (new ≡ [] → is_there (stated_as single start (length (part_of Reversed body))) (written Forward old body) tail ≡ false)
    → new_part (parted number (stated_as old_single old_start (length (part_of Forward body))) (bodied (written Forward old body) (has_change old))) (ahead at (line ∷ (new ++ tail)))
    ≡ Ok (parted at (stated_as single start (length (part_of Reversed body))) (bodied (written Reversed new body) (has_change new)), ahead (at + 1 + length new) tail)
new-again number at old_line old_single old_start line single start old new body tail r0 r fits s0 s none some begins told =
    let n = length (part_of Reversed body) in
    let st = stated_as single start n in
    let olds = told_by Forward old body in
    let before = parted number (stated_as old_single old_start (length (part_of Forward body))) olds in
    let left_out : new ≡ [] → is_new st olds tail ≡ false = (λ e. none-new line single start old body tail r (subst (λ ls. SpellsSide Forward old ls body) e s0) (subst (λ ls. SpellsSide Reversed ls old body) e s) (alone e) (told e)) in
    let empty : new ≡ [] → new_count st olds (new ++ tail) ≡ 0 = (λ e. ap (λ (ls : List (List ℕ)). new_count st olds (ls ++ tail)) e ∙ count-none st olds tail (left_out e)) in
    let full : 0 < length new → new_count st olds (new ++ tail) ≡ n = (λ has. count-there st olds (new ++ tail) (new-front st olds new tail has ∙ begins has) ∙ most-again Reversed line single start n r (some-side Reversed new old body s has)) in
    new-step before at (at + 1 + length new) line (new ++ tail) tail st (bodied (written Reversed new body) (has_change new)) (line-again Reversed 0 line single start n r fits (omega arith)) (new-fits at line single start olds new old body tail r fits s left_out) (enough-again number at old_line old_single old_start old body (has_change old) r0)
    (side_again Reversed new old body tail (new_count st olds (new ++ tail)) (at + 1) s none (λ e. zero-done (new_count st olds (new ++ tail)) (empty e)) full refl)
  where
    zero-done : (k : ℕ) → k ≡ 0 → eqb k 0 ≡ true
    zero-done k e = rw e refl

    alone : new ≡ [] → 0 < length old
    alone e = omega (arith, some, length-append old new, ap length e)

-- ---- and_parts

sized-step : (part partner : PlainPart) (n : ℕ) → size_by part.body.lines partner.body.lines ≡ n → is_count part.stated n ≡ true → ltb 4294967295 (part.stated.start + n) ≡ false → sized part partner ≡ Ok tt
sized-step part partner n e c f = rw (e, c, f) refl

pub whole-step : (old new : PlainPart) (body : List Marked) → sized old new ≡ Ok tt → sized new old ≡ Ok tt → joined old.body new.body ≡ Some body → whole old new ≡ Ok (record { old_start = old.stated.start; new_start = new.stated.start; body = body })
unfolding whole
whole-step old new body e1 e2 e3 = rw (e1, e2, e3) refl

swap-some : (old new : List (List ℕ)) → 0 < length (old ++ new) → 0 < length (new ++ old)
swap-some old new some = omega (arith, some, length-append old new, length-append new old)

pub whole-again : (number at : ℕ) (old_line : List ℕ) (old_single : Bool) (old_start : ℕ) (line : List ℕ) (single : Bool) (start : ℕ) (old new : List (List ℕ)) (body : List Marked) → SpellsRange Forward old_line old_single old_start (length (part_of Forward body)) → SpellsRange Reversed line single start (length (part_of Reversed body))
    → old_start + length (part_of Forward body) < 2 ^ 32 → start + length (part_of Reversed body) < 2 ^ 32 → SpellsSide Forward old new body → SpellsSide Reversed new old body → 0 < length (old ++ new) → DropsFirst body
    → whole (parted number (stated_as old_single old_start (length (part_of Forward body))) (bodied (written Forward old body) (has_change old))) (parted at (stated_as single start (length (part_of Reversed body))) (bodied (written Reversed new body) (has_change new)))
    ≡ Ok (hunk_is old_start start body)
whole-again number at old_line old_single old_start line single start old new body r0 r fits0 fits s t some drops =
    let n0 = length (part_of Forward body) in
    let n = length (part_of Reversed body) in
    let a = parted number (stated_as old_single old_start n0) (bodied (written Forward old body) (has_change old)) in
    let b = parted at (stated_as single start n) (bodied (written Reversed new body) (has_change new)) in
    let small0 : ltb 4294967295 ((stated_as old_single old_start n0).start + n0) ≡ false = rw (start-is old_single old_start n0) (le-ltb 4294967295 (old_start + n0) (omega (arith, fits0))) in
    let small : ltb 4294967295 ((stated_as single start n).start + n) ≡ false = rw (start-is single start n) (le-ltb 4294967295 (start + n) (omega (arith, fits))) in
    whole-step a b body
    (sized-step a b n0 (size-again Forward Reversed old new body s some) (count-again Forward old_line old_single old_start n0 r0) small0)
    (sized-step b a n (size-again Reversed Forward new old body t (swap-some old new some)) (count-again Reversed line single start n r) small)
    (join-again old new body s t some drops)
    ∙ ap (λ k. Ok (hunk_is k (stated_as single start n).start body)) (start-is old_single old_start n0) ∙ ap (λ k. Ok (hunk_is old_start k body)) (start-is single start n)
