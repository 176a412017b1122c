-- Joining pieces, and the last line of a text.
use Rattle.std.proofs.Common.{◌≡◌, ℕ, suc, zero, ◌+◌, ◌-◌, ◌<◌, ◌≤◌, Bool, true, false, not, eqb, List, [], ◌∷◌, ◌++◌, length, get_or, refl, sym, ap, ◌∙◌, arith, inl, inr, length-append}
use Rattle.std.proofs.lemmas.List.{append-nil, get_or-append-add}
use Rattle.std.proofs.lemmas.List.Concat.{flat_map-cons}
use Rattle.line_list.specs.Lines.{lines, IsLine, IsOpenLine, ArePieces}
use Rattle.line_list.specs.Join.{lacks_feed, feed_if, join, ends_open}
use Rattle.line_list.specs.Completed.{completed, IsComplete}
use Rattle.line_list.proofs.Pieces.{joined, lines-joined, lines-pieces}

-- the last byte alone counts
pub lacks-append : (a b : List ℕ) → 0 < length b → lacks_feed (a ++ b) ≡ lacks_feed b
lacks-append a [] lt = absurd (omega arith)
lacks-append a (c ∷ bs) lt =
    let place : length (a ++ c ∷ bs) - 1 ≡ length a + (length (c ∷ bs) - 1) = omega (arith, length-append a (c ∷ bs)) in
    let some : eqb (length (a ++ c ∷ bs)) 0 ≡ false = grind (arith, length-append a (c ∷ bs)) in
    let one : eqb (length (c ∷ bs)) 0 ≡ false = grind arith in
    rw (some, one, place, get_or-append-add a (c ∷ bs) (length (c ∷ bs) - 1) 0) refl

pub line-has : (line : List ℕ) → IsLine line → lacks_feed line ≡ false
line-has [] h = absurd h
line-has (b ∷ []) h = rw h refl
line-has (b ∷ c ∷ bs) h = lacks-append (b ∷ []) (c ∷ bs) (omega arith) ∙ line-has (c ∷ bs) h.1

pub open-lacks : (line : List ℕ) → IsOpenLine line → lacks_feed line ≡ true
open-lacks [] h = absurd (omega (arith, h.0))
open-lacks (b ∷ []) h = let ne : eqb b 10 ≡ false = grind (arith, h.1.0) in rw ne refl
open-lacks (b ∷ c ∷ bs) h = lacks-append (b ∷ []) (c ∷ bs) (omega arith) ∙ open-lacks (c ∷ bs) (omega arith, h.1.1)

pub join-pieces : (ls : List (List ℕ)) → ArePieces ls → join ls ≡ joined ls
unfolding join
join-pieces [] h = refl
join-pieces (line ∷ []) h = sym (flat_map-cons (λ l. l) line [] ∙ append-nil line)
join-pieces (line ∷ next ∷ more) h =
    let whole : lacks_feed line ≡ false = line-has line h.0 in
    let rest : join (next ∷ more) ≡ joined (next ∷ more) = join-pieces (next ∷ more) h.1 in
    rw (whole, append-nil line, rest) (sym (flat_map-cons (λ (l : List ℕ). l) line (next ∷ more)))

pub join-lines : (text : List ℕ) → join (lines text) ≡ text
join-lines text = join-pieces (lines text) (lines-pieces text) ∙ lines-joined text

some-joined : (line : List ℕ) (more : List (List ℕ)) → ArePieces (line ∷ more) → 0 < length (joined (line ∷ more))
some-joined [] [] (inl h) = absurd h
some-joined [] [] (inr h) = absurd (omega (arith, h.0))
some-joined [] (next ∷ more) h = absurd h.0
some-joined (b ∷ bs) more h = omega (arith, ap length (flat_map-cons (λ l. l) (b ∷ bs) more), length-append (b ∷ bs) (joined more))

open-joined : (line : List ℕ) (more : List (List ℕ)) → ArePieces (line ∷ more) → ends_open (line ∷ more) ≡ lacks_feed (joined (line ∷ more))
unfolding ends_open
open-joined line [] h = ap lacks_feed (sym (flat_map-cons (λ l. l) line [] ∙ append-nil line))
open-joined line (next ∷ more) h =
    open-joined next more h.1
    ∙ sym (ap lacks_feed (flat_map-cons (λ l. l) line (next ∷ more)) ∙ lacks-append line (joined (next ∷ more)) (some-joined next more h.1))

pub open-none : ends_open [] ≡ false
unfolding ends_open
open-none = refl

open-of : (ls : List (List ℕ)) (text : List ℕ) → joined ls ≡ text → ArePieces ls → 0 < length text → ends_open ls ≡ lacks_feed text
open-of [] text e h lt = absurd (omega (arith, ap length e))
open-of (line ∷ more) text e h lt = open-joined line more h ∙ ap lacks_feed e

-- whether the last line is open, by the last byte
pub open-last : (text : List ℕ) → 0 < length text → ends_open (lines text) ≡ lacks_feed text
open-last text lt = open-of (lines text) text (lines-joined text) (lines-pieces text) lt

pub open-nothing : (text : List ℕ) → text ≡ [] → ends_open (lines text) ≡ false
unfolding lines
open-nothing text e = ap (λ t. ends_open (lines t)) e ∙ open-none

pub completed-stays : (text : List ℕ) → IsComplete text → completed text ≡ text
unfolding completed
completed-stays text h = ap (λ v. text ++ feed_if v) h ∙ append-nil text

by-open : (text : List ℕ) (v : Bool) → ends_open (lines text) ≡ v → ends_open (lines (text ++ feed_if v)) ≡ false
by-open text false e = ap (λ t. ends_open (lines t)) (append-nil text) ∙ e
by-open text true e =
    let some : 0 < length (text ++ 10 ∷ []) = omega (arith, length-append text (10 ∷ [])) in
    open-last (text ++ 10 ∷ []) some ∙ lacks-append text (10 ∷ []) (omega arith)

pub completed-complete : (text : List ℕ) → IsComplete (completed text)
unfolding completed
completed-complete text = by-open text (ends_open (lines text)) refl

whole-pieces : (ls : List (List ℕ)) → ArePieces ls → ends_open ls ≡ false → (k : ℕ) (d : List ℕ) → k < length ls → IsLine (get_or ls k d)
unfolding ends_open
whole-pieces [] h e k d lt = absurd (omega arith)
whole-pieces (line ∷ []) (inl h) e zero d lt = h
whole-pieces (line ∷ []) (inr h) e zero d lt = let o : lacks_feed line ≡ true = open-lacks line h in cc
whole-pieces (line ∷ []) h e (suc k) d lt = absurd (omega arith)
whole-pieces (line ∷ next ∷ more) h e zero d lt = h.0
whole-pieces (line ∷ next ∷ more) h e (suc k) d lt = whole-pieces (next ∷ more) h.1 e k d (omega arith)

pub complete-whole : (text : List ℕ) → IsComplete text → (k : ℕ) (d : List ℕ) → k < length (lines text) → IsLine (get_or (lines text) k d)
complete-whole text h = whole-pieces (lines text) (lines-pieces text) h

pub last-lacks : (text : List ℕ) (b : ℕ) → 0 < length text → b ≡ get_or text (length text - 1) 0 → not (eqb b 10) ≡ ends_open (lines text)
last-lacks text b lt e =
    let some : eqb (length text) 0 ≡ false = grind arith in
    let same : lacks_feed text ≡ not (eqb b 10) = rw (some, e) refl in
    sym same ∙ sym (open-last text lt)

pub none-lacks : (text : List ℕ) → length text ≤ 0 → false ≡ ends_open (lines text)
none-lacks [] le = sym (open-nothing [] refl)
none-lacks (b ∷ bs) le = absurd (omega arith)

pub join-one : (line : List ℕ) → join (line ∷ []) ≡ line
unfolding join
join-one line = refl
