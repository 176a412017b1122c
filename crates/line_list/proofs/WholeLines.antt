-- Bytes without a line feed, whole lines, and the lines of a text that whole ones join to.
use Rattle.std.proofs.Common.{◌≢◌, ℕ, List, [], ◌∷◌, ◌++◌, ◌≡◌, ◌-◌, length, take, refl, sym, ap, ◌∙◌, arith, ◌⊎◌, append_assoc, ◌<◌, inl, zero, suc}
use Rattle.std.specs.List.{AllByRecursion, flat_map}
use Rattle.std.proofs.lemmas.List.{take_at, length-append}
use Rattle.line_list.specs.Lines.{IsLine, lines, ArePieces, IsOpenLine}
use Rattle.line_list.proofs.Pieces.{longer, line-first}
use Rattle.std.proofs.lemmas.List.Concat.{flat_map-cons}

abbrev pub NoFeed : List ℕ → Type 0
NoFeed bs = AllByRecursion (λ b. b ≢ 10) bs

pub no-feed-both : (xs ys : List ℕ) → NoFeed xs → NoFeed ys → NoFeed (xs ++ ys)
no-feed-both [] ys h k = k
no-feed-both (x ∷ xs) ys h k = (h.0, no-feed-both xs ys h.1 k)

pub shorter : (line : List ℕ) → line ≡ take (length (line ++ 10 ∷ []) - 1) (line ++ 10 ∷ [])
shorter line =
    let len : length (line ++ 10 ∷ []) - 1 ≡ length line = omega (arith, length-append line (10 ∷ [])) in
    sym (ap (λ n. take n (line ++ 10 ∷ [])) len ∙ take_at line (10 ∷ []) (length line) refl)

pub closes : (bs : List ℕ) → NoFeed bs → IsLine (bs ++ 10 ∷ [])
closes [] h = refl
closes (b ∷ []) h = (h.0, refl)
closes (b ∷ c ∷ bs) h = (h.0, closes (c ∷ bs) h.1)

pub line-prefix : (xs ys : List ℕ) → NoFeed xs → IsLine ys → IsLine (xs ++ ys)
line-prefix [] ys h k = k
line-prefix (x ∷ xs) ys h k = longer x (xs ++ ys) h.0 (line-prefix xs ys h.1 k)

-- each line has its line feed, or is the last
abbrev pub LinesFit : List (List ℕ) → Type 0
LinesFit [] = Unit {0}
LinesFit (l ∷ ls) = (IsLine l ⊎ (NoFeed l × (ls ≡ []))) × LinesFit ls

abbrev pub AreLines : List (List ℕ) → Type 0
AreLines ls = AllByRecursion IsLine ls

pub lines-both : (xs ys : List (List ℕ)) → AreLines xs → AreLines ys → AreLines (xs ++ ys)
lines-both [] ys h k = k
lines-both (x ∷ xs) ys h k = (h.0, lines-both xs ys h.1 k)

pub lines-whole : (ls : List (List ℕ)) (rest : List ℕ) → AreLines ls → lines (flat_map (λ line. line) ls ++ rest) ≡ ls ++ lines rest
lines-whole [] rest h = refl
lines-whole (line ∷ ls) rest h =
    ap (λ bs. lines (bs ++ rest)) (flat_map-cons (λ line. line) line ls)
    ∙ ap lines (append_assoc line (flat_map (λ line. line) ls) rest)
    ∙ line-first line (flat_map (λ line. line) ls ++ rest) h.0
    ∙ ap (λ more. line ∷ more) (lines-whole ls rest h.1)

pub whole-before : (line : List ℕ) (rest : List (List ℕ)) → 0 < length rest → ArePieces (line ∷ rest) → IsLine line
whole-before line [] some h = absurd (omega (arith, some))
whole-before line (next ∷ rest) some h = h.0

pub whole-pieces : (ls : List (List ℕ)) → AreLines ls → ArePieces ls
whole-pieces [] h = tt
whole-pieces (line ∷ []) h = inl h.0
whole-pieces (line ∷ next ∷ more) h = (h.0, whole-pieces (next ∷ more) h.1)

pub no-feed-take : (n : ℕ) (bs : List ℕ) → NoFeed bs → NoFeed (take n bs)
no-feed-take zero bs all = tt
no-feed-take (suc n) [] all = tt
no-feed-take (suc n) (b ∷ bs) all = (all.0, no-feed-take n bs all.1)

-- a line of a text, and a list of such lines, which needn't be those of one text
abbrev pub IsPieceLine : List ℕ → Type 0
IsPieceLine line = IsLine line ⊎ IsOpenLine line

abbrev pub ArePieceLines : List (List ℕ) → Type 0
ArePieceLines ls = AllByRecursion IsPieceLine ls

pub pieces-all : (ls : List (List ℕ)) → ArePieces ls → ArePieceLines ls
pieces-all [] p = tt
pieces-all (l ∷ []) p = (p, tt)
pieces-all (l ∷ k ∷ ls) p = (inl p.0, pieces-all (k ∷ ls) p.1)

pub front-all : (xs ys : List (List ℕ)) → ArePieceLines (xs ++ ys) → ArePieceLines xs
front-all [] ys all = tt
front-all (x ∷ xs) ys all = (all.0, front-all xs ys all.1)

pub rest-all : (xs ys : List (List ℕ)) → ArePieceLines (xs ++ ys) → ArePieceLines ys
rest-all [] ys all = all
rest-all (x ∷ xs) ys all = rest-all xs ys all.1
