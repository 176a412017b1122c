-- Lines that lie side by side in a text.
use Rattle.std.proofs.Common.{◌≡◌, ℕ, zero, suc, ◌+◌, ◌-◌, ◌<◌, ◌≤◌, List, [], ◌∷◌, ◌++◌, length, get_or, take, drop, slice_range, sym, ap, subst, ◌∙◌, arith, inl}
use Rattle.std.proofs.lemmas.Grind.{flat_map-append}
use Rattle.std.proofs.lemmas.List.{append-nil, take-take, length-take-le, length-drop}
use Rattle.std.proofs.lemmas.List.Concat.{flat_map-cons}
use Rattle.std.proofs.lemmas.List.Edits.{between_more}
use Rattle.std.proofs.lemmas.List.Folds.{drop_split}
use Rattle.std.proofs.lemmas.Slice.{between_is}
use Rattle.line_list.specs.Lines.{lines, ArePieces}
use Rattle.line_list.specs.Join.{join, lacks_feed, ends_open}
use Rattle.line_list.proofs.Pieces.{joined, lines-pieces, pieces-only}
use Rattle.line_list.proofs.JoinLemmas.{join-pieces, open-last}
use Rattle.plan_a.specs.Cut.{IsPiece, IsCut, IsRange, from_of, to_of}

pieces-drop : (i : ℕ) (ls : List (List ℕ)) → ArePieces ls → ArePieces (drop i ls)
pieces-drop zero ls h = h
pieces-drop (suc i) [] h = tt
pieces-drop (suc i) (line ∷ []) h = pieces-drop i [] tt
pieces-drop (suc i) (line ∷ next ∷ more) h = pieces-drop i (next ∷ more) h.1

pieces-take : (n : ℕ) (ls : List (List ℕ)) → ArePieces ls → ArePieces (take n ls)
pieces-take zero ls h = tt
pieces-take (suc n) [] h = tt
pieces-take (suc zero) (line ∷ []) h = h
pieces-take (suc (suc n)) (line ∷ []) h = h
pieces-take (suc zero) (line ∷ next ∷ more) h = inl h.0
pieces-take (suc (suc n)) (line ∷ next ∷ more) h = (h.0, pieces-take (suc n) (next ∷ more) h.1)

-- what n lines behind the first i join to
range-joined : (text : List ℕ) (i n : ℕ) → join (take n (drop i (lines text))) ≡ joined (take n (drop i (lines text)))
range-joined text i n = join-pieces (take n (drop i (lines text))) (pieces-take n (drop i (lines text)) (pieces-drop i (lines text) (lines-pieces text)))

-- whether lines end open, by the last byte of what they join to
end-joined : (ls : List (List ℕ)) (text : List ℕ) → joined ls ≡ text → ArePieces ls → 0 < length ls → lacks_feed text ≡ ends_open ls
unfolding lines
end-joined ls [] e h lt = let none : ls ≡ [] = sym (pieces-only ls h) ∙ ap lines e in absurd (omega (arith, ap length none))
end-joined ls (b ∷ bs) e h lt = sym (open-last (b ∷ bs) (omega arith)) ∙ ap ends_open (ap lines (sym e) ∙ pieces-only ls h)

joined-more : (ls : List (List ℕ)) (i n : ℕ) → i + n < length ls → joined (take (n + 1) (drop i ls)) ≡ joined (take n (drop i ls)) ++ get_or ls (i + n) []
joined-more ls i n lt =
    let a : i + n - i ≡ n = omega arith in
    let b : i + n + 1 - i ≡ n + 1 = omega arith in
    let more : slice_range ls i (i + n + 1) ≡ slice_range ls i (i + n) ++ (get_or ls (i + n) [] ∷ []) = between_more ls i (i + n) [] (omega arith) lt in
    let same : take (n + 1) (drop i ls) ≡ take n (drop i ls) ++ (get_or ls (i + n) [] ∷ []) = rw (a, b) at more in
    ap joined same
    ∙ flat_map-append (λ (line : List ℕ). line) (take n (drop i ls)) (get_or ls (i + n) [] ∷ [])
    ∙ ap (λ r. joined (take n (drop i ls)) ++ r) (flat_map-cons (λ (line : List ℕ). line) (get_or ls (i + n) []) [] ∙ append-nil (get_or ls (i + n) []))

record IsJoined (text : List ℕ) (i n from to : ℕ) : Type 0 where
  low : from ≤ to
  high : to ≤ length text
  is : joined (take n (drop i (lines text))) ≡ slice_range text from to

ranges-meet : (text : List ℕ) (a b c : ℕ) → a ≤ b → b ≤ c → slice_range text a b ++ slice_range text b c ≡ slice_range text a c
ranges-meet text a b c order later =
    ap (λ r. r ++ slice_range text b c) (between_is text a b ∙ ap (drop a) (sym (take-take b c text later)) ∙ sym (between_is (take c text) a b))
    ∙ ap (λ r. slice_range (take c text) a b ++ r) (between_is text b c)
    ∙ sym (drop_split (take c text) a b order)
    ∙ sym (between_is text a c)

joined-range : (text ends : List ℕ) (i n : ℕ) → IsCut text ends → i + n < length ends → IsJoined text i (n + 1) (from_of ends i) (to_of ends (i + n))
joined-range text ends i zero cut lt =
    let z : i + 0 ≡ i = omega arith in
    let p : IsPiece text (from_of ends i) (to_of ends i) i = cut.each i (omega arith) in
    let lines_long : i + 0 < length (lines text) = omega (arith, cut.count) in
    let one : joined (take (0 + 1) (drop i (lines text))) ≡ joined (take 0 (drop i (lines text))) ++ get_or (lines text) (i + 0) [] = joined-more (lines text) i 0 lines_long in
    let here : get_or (lines text) (i + 0) [] ≡ slice_range text (from_of ends i) (to_of ends i) = ap (λ k. get_or (lines text) k []) z ∙ p.is in
    subst (λ k. IsJoined text i (zero + 1) (from_of ends i) (to_of ends k)) (sym z) (record { low = p.low; high = p.high; is = one ∙ here })
joined-range text ends i (suc n) cut lt =
    let before : IsJoined text i (n + 1) (from_of ends i) (to_of ends (i + n)) = joined-range text ends i n cut (omega arith) in
    let p : IsPiece text (from_of ends (i + n + 1)) (to_of ends (i + n + 1)) (i + n + 1) = cut.each (i + n + 1) (omega arith) in
    let step : i + n + 1 ≡ suc (i + n) = omega arith in
    let meets : from_of ends (i + n + 1) ≡ to_of ends (i + n) = ap (λ k. get_or (0 ∷ ends) k 0) step in
    let far : i + n + 1 ≡ i + suc n = omega arith in
    let width : n + 1 ≡ suc n = omega arith in
    let lines_long : i + suc n < length (lines text) = omega (arith, cut.count) in
    let low : to_of ends (i + n) ≤ to_of ends (i + n + 1) = subst (λ f. f ≤ to_of ends (i + n + 1)) meets p.low in
    let one : joined (take (suc n + 1) (drop i (lines text))) ≡ joined (take (suc n) (drop i (lines text))) ++ get_or (lines text) (i + suc n) [] = joined-more (lines text) i (suc n) lines_long in
    let front : joined (take (suc n) (drop i (lines text))) ≡ slice_range text (from_of ends i) (to_of ends (i + n)) = ap (λ m. joined (take m (drop i (lines text)))) (sym width) ∙ before.is in
    let last : get_or (lines text) (i + suc n) [] ≡ slice_range text (to_of ends (i + n)) (to_of ends (i + n + 1)) = ap (λ k. get_or (lines text) k []) (sym far) ∙ p.is ∙ ap (λ f. slice_range text f (to_of ends (i + n + 1))) meets in
    let whole : joined (take (suc n + 1) (drop i (lines text))) ≡ slice_range text (from_of ends i) (to_of ends (i + n + 1)) =
    one ∙ ap (λ r. r ++ get_or (lines text) (i + suc n) []) front ∙ ap (λ r. slice_range text (from_of ends i) (to_of ends (i + n)) ++ r) last
    ∙ ranges-meet text (from_of ends i) (to_of ends (i + n)) (to_of ends (i + n + 1)) before.low low in
    subst (λ k. IsJoined text i (suc n + 1) (from_of ends i) (to_of ends k)) far (record { low = omega (arith, before.low, low); high = p.high; is = whole })

pub cut-range : (text ends : List ℕ) (i n : ℕ) → IsCut text ends → 1 ≤ n → i + n ≤ length ends → IsRange text i n (from_of ends i) (to_of ends (i + n - 1))
cut-range text ends i n cut some le =
    let a : n - 1 + 1 ≡ n = omega arith in
    let b : i + (n - 1) ≡ i + n - 1 = omega arith in
    let h : IsJoined text i (n - 1 + 1) (from_of ends i) (to_of ends (i + (n - 1))) = joined-range text ends i (n - 1) cut (omega arith) in
    let k : IsJoined text i n (from_of ends i) (to_of ends (i + n - 1)) = subst (λ m. IsJoined text i m (from_of ends i) (to_of ends (i + n - 1))) a (subst (λ e. IsJoined text i (n - 1 + 1) (from_of ends i) (to_of ends e)) b h) in
    let few : length (take n (drop i (lines text))) ≡ n = length-take-le n (drop i (lines text)) (let left : length (drop i (lines text)) ≡ length (lines text) - i = length-drop i (lines text) in omega (arith, cut.count)) in
    record {
      low = k.low;
      high = k.high;
      is = sym k.is ∙ sym (range-joined text i n);
      end = end-joined (take n (drop i (lines text))) (slice_range text (from_of ends i) (to_of ends (i + n - 1))) k.is (pieces-take n (drop i (lines text)) (pieces-drop i (lines text) (lines-pieces text))) (omega arith);
    }
