-- Where the blocks of a change stand, and which lines they have.
use Rattle.std.proofs.Common.{◌≡◌, ℕ, suc, ◌+◌, ◌<◌, ◌≤◌, Bool, true, false, cond, not, eqb, ◌||◌, ◌&&◌, List, [], ◌∷◌, ◌++◌, length, map, append_assoc, refl, sym, ap, subst, ◌∙◌, arith}
use Rattle.std.specs.Prelude.{filter, nat_lt}
use Rattle.std.specs.List.{AllByRecursion, flat_map}
use Rattle.std.proofs.lemmas.Bool.Decides.{nat_tests}
use Rattle.std.proofs.lemmas.Grind.{flat_map-append}
use Rattle.std.proofs.lemmas.List.{append-nil, length-append}
use Rattle.std.proofs.lemmas.Bool.{or_parts}
use Rattle.hunk_core.specs.declared.Mark.{Mark}
use Rattle.hunk_core.specs.declared.Mark.TheVariants.{Keep, Drop, Add}
use Rattle.hunk_core.specs.declared.Side.{Side}
use Rattle.hunk_core.specs.declared.Side.TheVariants.{Forward, Reversed}
use Rattle.hunk_core.specs.declared.check.BadHunk.TheVariants as rules
use Rattle.hunk_core.specs.LineTests.{ends_line}
use Rattle.hunk_core.specs.PlainHunk.{Marked, PlainHunk, new_lines, old_lines}
use Rattle.hunk_core.specs.Rules.{lacks_inner_end, starts_at_zero}
use Rattle.hunk_core.specs.Sides.{is_on_side}
use Rattle.hunk_core.specs.Turned.{base}
use Rattle.format_convert.specs.Blocks.{Block, Edit, behind, block_of, blocks_of, body_edits, dropped_by, hunk_edits, in_front, marked_edits}
use Rattle.format_convert.specs.Fitting.{changed_lines, falls_behind, own_lines}
use Rattle.format_convert.specs.Fronts.{line_on}
use Rattle.format_convert.proofs.FitLemmas.{falls-cons}
use Rattle.format_convert.proofs.FrontLemmas.{blocks-cons, blocks-none}
use Rattle.format_convert.proofs.Steps.{edits-mark, edits-none}
use Rattle.law_reading.proofs.Hunks.{IsGood}
use Rattle.hunk_core.proofs.RuleLemmas.{pass}

-- ---- the rules of a hunk, one by one
begins-no : (start : ℕ) (side : List (List ℕ)) → starts_at_zero start side ≡ false → 1 ≤ cond (eqb (length side) 0) (start + 1) start
begins-no start side e = by (eqb (length side) 0) e
  where
    and-true : (v : Bool) → (v && true) ≡ false → v ≡ false
    and-true true e = e
    and-true false e = refl

    by : (v : Bool) → (eqb start 0 && not v) ≡ false → 1 ≤ cond v (start + 1) start
    by true e = omega arith
    by false e = let other : eqb start 0 ≡ false = and-true (eqb start 0) e in grind (arith, nat_tests)

pub base-some : (h : PlainHunk) → IsGood h → 1 ≤ base h
base-some h g =
    let a = pass (eqb (length h.body) 0) rules.NoLines _ g.unbroken in
    let b = pass (starts_at_zero h.old_start (old_lines h.body) || starts_at_zero h.new_start (new_lines h.body)) rules.Start _ a.1 in
    begins-no h.old_start (old_lines h.body) (or_parts (starts_at_zero h.old_start (old_lines h.body)) (starts_at_zero h.new_start (new_lines h.body)) b.0).0

-- ---- edits that follow each other in the file

abbrev pub Climbs : ℕ → List Edit → Type 0
Climbs from [] = Unit {0}
Climbs from (e ∷ es) = (from ≤ e.at) × Climbs (behind e) es

pub climbs-less : (s t : ℕ) (es : List Edit) → s ≤ t → Climbs t es → Climbs s es
climbs-less s t [] le c = tt
climbs-less s t (e ∷ es) le c = (omega (arith, le, c.0), c.1)

body-climbs : (at : ℕ) (ms : List Marked) (later : List Edit) → Climbs (at + length (old_lines ms)) later → Climbs at (body_edits at ms ++ later)
body-climbs at [] later c = subst (λ es. Climbs at (es ++ later)) (sym (edits-none at)) (climbs-less at (at + 0) later (omega arith) c)
body-climbs at (m ∷ ms) later c = subst (λ es. Climbs at (es ++ later)) (sym (edits-mark at m ms)) (by m.mark (λ q d. body-climbs q ms later d) c)
  where
    by : (k : Mark) → ((q : ℕ) → Climbs (q + length (old_lines ms)) later → Climbs q (body_edits q ms ++ later)) → Climbs (at + length (map (λ (x : Marked). x.line) (cond (is_on_side Forward k) (m ∷ filter (λ x. is_on_side Forward x.mark) ms) (filter (λ x. is_on_side Forward x.mark) ms)))) later → Climbs at (marked_edits k at m.line (λ next. body_edits next ms) ++ later)
    by Keep again c = climbs-less at (at + 1) (body_edits (at + 1) ms ++ later) (omega arith) (again (at + 1) (climbs-less (at + 1 + length (old_lines ms)) (at + suc (length (old_lines ms))) later (omega arith) c))
    by Drop again c = (omega arith, again (at + 1) (climbs-less (at + 1 + length (old_lines ms)) (at + suc (length (old_lines ms))) later (omega arith) c))
    by Add again c = (omega arith, again at c)

hunks-climb : (from : ℕ) (hs : List PlainHunk) → falls_behind from hs ≡ false → Climbs from (hunk_edits hs)
hunks-climb from [] e = tt
hunks-climb from (h ∷ hs) e =
    let both = or_parts (nat_lt (base h) from) (falls_behind (base h + length (old_lines h.body)) hs) (sym (falls-cons from h hs) ∙ e) in
    let low : from ≤ base h = lower (base h) from both.0 in
    climbs-less from (base h) (hunk_edits (h ∷ hs)) low (body-climbs (base h) h.body (hunk_edits hs) (hunks-climb (base h + length (old_lines h.body)) hs both.1))
  where
    lower : (x y : ℕ) → nat_lt x y ≡ false → y ≤ x
    lower x y f = grind (arith, nat_tests)

pub edits-climb : (hs : List PlainHunk) → AllByRecursion IsGood hs → falls_behind 0 hs ≡ false → Climbs 1 (hunk_edits hs)
edits-climb [] good e = tt
edits-climb (h ∷ hs) good e =
    let both = or_parts (nat_lt (base h) 0) (falls_behind (base h + length (old_lines h.body)) hs) (sym (falls-cons 0 h hs) ∙ e) in
    climbs-less 1 (base h) (hunk_edits (h ∷ hs)) (base-some h good.0) (body-climbs (base h) h.body (hunk_edits hs) (hunks-climb (base h + length (old_lines h.body)) hs both.1))

-- ---- where blocks stand

-- each one stands behind this line and its gap, and at least one kept line behind the one before it
abbrev pub Apart : ℕ → List Block → Type 0
Apart end [] = Unit {0}
Apart end (b ∷ bs) = (end < b.first) × Apart (b.first + length b.dropped) bs

abbrev StandFrom : ℕ → List Block → Type 0
StandFrom from [] = Unit {0}
StandFrom from (b ∷ bs) = (from ≤ b.first) × Apart (b.first + length b.dropped) bs

drop-count : (e : Edit) → e.at + length (dropped_by e) ≡ behind e
drop-count e = by e.adds
  where
    by : (v : Bool) → e.at + length (cond v [] (e.line ∷ [])) ≡ cond v e.at (e.at + 1)
    by true = omega arith
    by false = refl

front-stands : (e : Edit) (bs : List Block) → StandFrom (behind e) bs → StandFrom e.at (in_front e bs)
front-stands e [] s = (omega arith, tt)
front-stands e (b ∷ bs) s = by (eqb (behind e) b.first) refl
  where
    by : (v : Bool) → eqb (behind e) b.first ≡ v → StandFrom e.at (cond v (block_of e b.dropped b.added ∷ bs) (block_of e [] [] ∷ b ∷ bs))
    by true is =
        let same : behind e ≡ b.first = grind (arith, nat_tests) in
        (omega arith, subst (λ n. Apart n bs) (omega (arith, same, drop-count e, length-append (dropped_by e) b.dropped)) s.1)
    by false is =
        let other : behind e < b.first = let low : behind e ≤ b.first = s.0 in grind (arith, nat_tests) in
        (omega arith, (omega (arith, other, drop-count e, length-append (dropped_by e) []), s.1))

stand-less : (s t : ℕ) (bs : List Block) → s ≤ t → StandFrom t bs → StandFrom s bs
stand-less s t [] le c = tt
stand-less s t (b ∷ bs) le c = (omega (arith, le, c.0), c.1)

blocks-stand : (from : ℕ) (es : List Edit) → Climbs from es → StandFrom from (blocks_of es)
blocks-stand from [] c = subst (StandFrom from) (sym blocks-none) tt
blocks-stand from (e ∷ es) c = subst (StandFrom from) (sym (blocks-cons e es)) (stand-less from e.at (in_front e (blocks_of es)) c.0 (front-stands e (blocks_of es) (blocks-stand (behind e) es c.1)))

pub blocks-apart : (es : List Edit) → Climbs 1 es → Apart 0 (blocks_of es)
blocks-apart es c = by (blocks_of es) (blocks-stand 1 es c)
  where
    by : (bs : List Block) → StandFrom 1 bs → Apart 0 bs
    by [] s = tt
    by (b ∷ bs) s = (omega (arith, s.0), s.1)

-- ---- a block has a line

pub record IsSome (b : Block) : Type 0 where
  pub some : 1 ≤ length b.dropped + length b.added

one-line : (e : Edit) (dropped added : List (List ℕ)) → IsSome (block_of e dropped added)
one-line e dropped added = record { some = by e.adds }
  where
    by : (v : Bool) → 1 ≤ length (cond v [] (e.line ∷ []) ++ dropped) + length (cond v (e.line ∷ []) [] ++ added)
    by true = omega arith
    by false = omega arith

front-some : (e : Edit) (bs : List Block) → AllByRecursion IsSome bs → AllByRecursion IsSome (in_front e bs)
front-some e [] all = (one-line e [] [], tt)
front-some e (b ∷ bs) all = by (eqb (behind e) b.first)
  where
    by : (v : Bool) → AllByRecursion IsSome (cond v (block_of e b.dropped b.added ∷ bs) (block_of e [] [] ∷ b ∷ bs))
    by true = (one-line e b.dropped b.added, all.1)
    by false = (one-line e [] [], all)

pub blocks-some : (es : List Edit) → AllByRecursion IsSome (blocks_of es)
blocks-some [] = subst (AllByRecursion IsSome) (sym blocks-none) tt
blocks-some (e ∷ es) = subst (AllByRecursion IsSome) (sym (blocks-cons e es)) (front-some e (blocks_of es) (blocks-some es))

-- ---- the lines of blocks

abbrev pub lines_by : Side → Block → List (List ℕ)
lines_by Forward b = b.dropped
lines_by Reversed b = b.added

lines-front : (side : Side) (e : Edit) (dropped added : List (List ℕ)) → lines_by side (block_of e dropped added) ≡ line_on side e ++ (let b : Block = record { first = 0; dropped = dropped; added = added } in lines_by side b)
lines-front Forward e dropped added = by e.adds
  where
    by : (v : Bool) → cond v [] (e.line ∷ []) ++ dropped ≡ cond (not v) (e.line ∷ []) [] ++ dropped
    by true = refl
    by false = refl
lines-front Reversed e dropped added = refl

front-lines : (side : Side) (e : Edit) (bs : List Block) → flat_map (lines_by side) (in_front e bs) ≡ line_on side e ++ flat_map (lines_by side) bs
front-lines side e [] = ap (λ ls. ls ++ []) (lines-front side e [] []) ∙ append_assoc (line_on side e) _ [] ∙ ap (λ ls. line_on side e ++ ls) (none side)
  where
    none : (s : Side) → (let b : Block = record { first = 0; dropped = []; added = [] } in lines_by s b) ++ [] ≡ []
    none Forward = refl
    none Reversed = refl
front-lines side e (b ∷ bs) = by (eqb (behind e) b.first)
  where
    own : (s : Side) → (let c : Block = record { first = 0; dropped = b.dropped; added = b.added } in lines_by s c) ≡ lines_by s b
    own Forward = refl
    own Reversed = refl

    none : (s : Side) → (let c : Block = record { first = 0; dropped = []; added = [] } in lines_by s c) ≡ []
    none Forward = refl
    none Reversed = refl

    by : (v : Bool) → flat_map (lines_by side) (cond v (block_of e b.dropped b.added ∷ bs) (block_of e [] [] ∷ b ∷ bs)) ≡ line_on side e ++ flat_map (lines_by side) (b ∷ bs)
    by true = ap (λ ls. ls ++ flat_map (lines_by side) bs) (lines-front side e b.dropped b.added) ∙ append_assoc (line_on side e) _ (flat_map (lines_by side) bs) ∙ ap (λ ls. line_on side e ++ (ls ++ flat_map (lines_by side) bs)) (own side)
    by false = ap (λ ls. ls ++ flat_map (lines_by side) (b ∷ bs)) (lines-front side e [] [] ∙ ap (λ ls. line_on side e ++ ls) (none side) ∙ append-nil (line_on side e))

pub blocks-lines : (side : Side) (es : List Edit) → flat_map (lines_by side) (blocks_of es) ≡ flat_map (line_on side) es
blocks-lines side [] = ap (flat_map (lines_by side)) blocks-none
blocks-lines side (e ∷ es) = ap (flat_map (lines_by side)) (blocks-cons e es) ∙ front-lines side e (blocks_of es) ∙ ap (λ ls. line_on side e ++ ls) (blocks-lines side es)

body-lines : (side : Side) (at : ℕ) (ms : List Marked) → flat_map (line_on side) (body_edits at ms) ≡ own_lines side ms
body-lines side at [] = ap (flat_map (line_on side)) (edits-none at)
body-lines side at (m ∷ ms) = ap (flat_map (line_on side)) (edits-mark at m ms) ∙ by side m.mark (λ q. body-lines side q ms)
  where
    by : (s : Side) (k : Mark) → ((q : ℕ) → flat_map (line_on s) (body_edits q ms) ≡ own_lines s ms) → flat_map (line_on s) (marked_edits k at m.line (λ next. body_edits next ms)) ≡ own_lines s (record { mark = k; line = m.line } ∷ ms)
    by Forward Keep more = more (at + 1)
    by Forward Drop more = ap (λ ls. m.line ∷ ls) (more (at + 1))
    by Forward Add more = more at
    by Reversed Keep more = more (at + 1)
    by Reversed Drop more = more (at + 1)
    by Reversed Add more = ap (λ ls. m.line ∷ ls) (more at)

pub hunks-lines : (side : Side) (hs : List PlainHunk) → flat_map (line_on side) (hunk_edits hs) ≡ changed_lines side hs
hunks-lines side [] = refl
hunks-lines side (h ∷ hs) =
    flat_map-append (line_on side) (body_edits (base h) h.body) (hunk_edits hs)
    ∙ ap (λ ls. ls ++ flat_map (line_on side) (hunk_edits hs)) (body-lines side (base h) h.body)
    ∙ ap (λ ls. own_lines side h.body ++ ls) (hunks-lines side hs)

-- ---- no line but the last lacks its line feed

lacks-parts : (xs ys : List (List ℕ)) → lacks_inner_end (xs ++ ys) ≡ false → (lacks_inner_end xs ≡ false) × (lacks_inner_end ys ≡ false)
lacks-parts [] ys e = (refl, e)
lacks-parts (x ∷ []) [] e = (refl, refl)
lacks-parts (x ∷ []) (y ∷ ys) e = (refl, (or_parts (not (ends_line x)) (lacks_inner_end (y ∷ ys)) e).1)
lacks-parts (x ∷ z ∷ xs) ys e =
    let both = or_parts (not (ends_line x)) (lacks_inner_end (z ∷ (xs ++ ys))) e in
    let more = lacks-parts (z ∷ xs) ys both.1 in
    (neither (not (ends_line x)) (lacks_inner_end (z ∷ xs)) both.0 more.0, more.1)
  where
    neither : (a b : Bool) → a ≡ false → b ≡ false → (a || b) ≡ false
    neither a b p q = rw (p, q) refl

pub lacks-each : (side : Side) (bs : List Block) → lacks_inner_end (flat_map (lines_by side) bs) ≡ false → AllByRecursion (λ b. lacks_inner_end (lines_by side b) ≡ false) bs
lacks-each side [] e = tt
lacks-each side (b ∷ bs) e = let both = lacks-parts (lines_by side b) (flat_map (lines_by side) bs) e in (both.0, lacks-each side bs both.1)

-- ---- what holds of lines

pub all-parts : (P : List ℕ → Type 0) (xs ys : List (List ℕ)) → AllByRecursion P (xs ++ ys) → AllByRecursion P xs × AllByRecursion P ys
all-parts P [] ys all = (tt, all)
all-parts P (x ∷ xs) ys all = let more = all-parts P xs ys all.1 in ((all.0, more.0), more.1)

pub holds-each : (P : List ℕ → Type 0) (side : Side) (bs : List Block) → AllByRecursion P (flat_map (lines_by side) bs) → AllByRecursion (λ b. AllByRecursion P (lines_by side b)) bs
holds-each P side [] all = tt
holds-each P side (b ∷ bs) all = let both = all-parts P (lines_by side b) (flat_map (lines_by side) bs) all in (both.0, holds-each P side bs both.1)
