-- The places of a text's lines cut its lines out of it.
use Rattle.std.proofs.Common.{◌≡◌, ℕ, suc, zero, ◌+◌, ◌-◌, ◌<◌, ◌≤◌, List, [], ◌∷◌, ◌++◌, length, get_or, take, drop, map, refl, sym, ap, ◌∙◌, arith, inl, inr, length-append, length-drop}
use Rattle.std.proofs.lemmas.List.{length-take-le}
use Rattle.std.proofs.lemmas.List.{drop-drop, drop-append-le, take-append-le, take_all, drop_all}
use Rattle.std.proofs.lemmas.List.Concat.{flat_map-cons}
use Rattle.std.specs.List.{slice_range}
use Rattle.line_list.specs.Lines.{lines, ArePieces, IsLineAt}
use Rattle.line_list.specs.Places.{places, IsWithin}
use Rattle.line_list.proofs.Pieces.{joined, lines-joined, lines-pieces}

pub places-none : (at : ℕ) → places at [] ≡ []
unfolding places
places-none at = refl

pub places-cons : (at : ℕ) (line : List ℕ) (more : List (List ℕ)) → places at (line ∷ more) ≡ (at, at + length line) ∷ places (at + length line) more
unfolding places
places-cons at line more = refl

front : (line rest : List ℕ) → take (length line) (line ++ rest) ≡ line
front line rest = take-append-le (length line) line rest (omega arith) ∙ take_all (length line) line (omega arith)

back : (line rest : List ℕ) → drop (length line) (line ++ rest) ≡ rest
back line rest = drop-append-le (length line) line rest (omega arith) ∙ ap (λ r. r ++ rest) (drop_all (length line) line (omega arith))

past : (text : List ℕ) (at : ℕ) (line : List ℕ) (more : List (List ℕ)) → drop at text ≡ joined (line ∷ more) → drop (at + length line) text ≡ joined more
past text at line more e =
    sym (drop-drop (length line) at text) ∙ ap (drop (length line)) (e ∙ flat_map-cons (λ l. l) line more) ∙ back line (joined more)

pub places-cut : (text : List ℕ) (at : ℕ) (ls : List (List ℕ)) → drop at text ≡ joined ls → map (λ (p : ℕ × ℕ). slice_range text p.0 p.1) (places at ls) ≡ ls
unfolding places
places-cut text at [] e = refl
places-cut text at (line ∷ more) e =
    let width : at + length line - at ≡ length line = omega arith in
    let one : slice_range text at (at + length line) ≡ line = rw (width, e, flat_map-cons (λ (l : List ℕ). l) line more) (front line (joined more)) in
    ap (λ l. l ∷ map (λ (p : ℕ × ℕ). slice_range text p.0 p.1) (places (at + length line) more)) one
    ∙ ap (λ ls. line ∷ ls) (places-cut text (at + length line) more (past text at line more e))

piece-some : (line : List ℕ) (more : List (List ℕ)) → ArePieces (line ∷ more) → 0 < length line
piece-some [] [] (inl h) = absurd h
piece-some [] [] (inr h) = h.0
piece-some [] (next ∷ more) h = absurd h.0
piece-some (b ∷ bs) more h = omega arith

pieces-more : (line : List ℕ) (more : List (List ℕ)) → ArePieces (line ∷ more) → ArePieces more
pieces-more line [] h = tt
pieces-more line (next ∷ more) h = h.1

pub places-within : (text : List ℕ) (at : ℕ) (ls : List (List ℕ)) → drop at text ≡ joined ls → ArePieces ls → (k : ℕ) (d : ℕ × ℕ) → k < length (places at ls) → IsWithin text (get_or (places at ls) k d)
unfolding places
places-within text at [] e h k d lt = absurd (omega arith)
places-within text at (line ∷ more) e h zero d lt =
    let some : 0 < length line = piece-some line more h in
    let width : length (drop at text) ≡ length line + length (joined more) = ap length (e ∙ flat_map-cons (λ l. l) line more) ∙ length-append line (joined more) in
    let left : length (drop at text) ≡ length text - at = length-drop at text in
    record { some = omega arith; high = omega arith }
places-within text at (line ∷ more) e h (suc k) d lt = places-within text (at + length line) more (past text at line more e) (pieces-more line more h) k d (omega arith)

pub lines-cut : (text : List ℕ) → map (λ (p : ℕ × ℕ). slice_range text p.0 p.1) (places 0 (lines text)) ≡ lines text
lines-cut text = places-cut text 0 (lines text) (sym (lines-joined text))

pub lines-within : (text : List ℕ) (k : ℕ) (d : ℕ × ℕ) → k < length (places 0 (lines text)) → IsWithin text (get_or (places 0 (lines text)) k d)
lines-within text = places-within text 0 (lines text) (sym (lines-joined text)) (lines-pieces text)

pub places-step : (text : List ℕ) (at end : ℕ) → IsLineAt text at end → places at (lines (drop at text)) ≡ (at, end) ∷ places end (lines (drop end text))
places-step text at end line =
    let low : at < end = line.low in
    let high : end ≤ length text = line.high in
    let left : length (drop at text) ≡ length text - at = length-drop at text in
    let width : length (slice_range text at end) ≡ end - at = length-take-le (end - at) (drop at text) (omega arith) in
    let far : at + length (slice_range text at end) ≡ end = omega arith in
    ap (places at) line.first ∙ places-cons at (slice_range text at end) (lines (drop end text)) ∙ ap (λ n. (at, n) ∷ places n (lines (drop end text))) far

pub places-end : (text : List ℕ) (at : ℕ) → lines (drop at text) ≡ [] → places at (lines (drop at text)) ≡ []
places-end text at e = ap (places at) e ∙ places-none at
