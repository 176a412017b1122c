-- Whether a text begins with a backslash line is seen by its first bytes.
use Rattle.std.proofs.Common.{◌≡◌, ℕ, ◌<◌, ◌≤◌, length, Bool, true, false, cond, eqb, List, [], ◌∷◌, get_or, drop, slice_range, Option, None, Some, refl, sym, ap, ◌∙◌}
use Rattle.std.specs.Prelude.{is_some, IfSome}
use Rattle.std.proofs.lemmas.Bool.{eqb-true}
use Rattle.line_list.specs.Lines.{EndsLine, lines, with_first}
use Rattle.hunk_core.specs.LineTests.{after, after_backslash, is_backslash}
use Rattle.line_list.specs.Reader.{Reads}

one : (b : ℕ) → lines (b ∷ []) ≡ (b ∷ []) ∷ []
unfolding lines
one b = elim (eqb b 10) as (λ v. cond v ((b ∷ []) ∷ []) (with_first b []) ≡ (b ∷ []) ∷ []) [
  | true ↦ refl
  | false ↦ refl
]

joins : (b : ℕ) (ls : List (List ℕ)) → (more : List ℕ) × (others : List (List ℕ)) × (with_first b ls ≡ (b ∷ more) ∷ others)
joins b [] = ([], [], refl)
joins b (l ∷ ls) = (l, ls, refl)

-- a line begins with the first byte
heads : (b : ℕ) (bs : List ℕ) → (more : List ℕ) × (others : List (List ℕ)) × (lines (b ∷ bs) ≡ (b ∷ more) ∷ others)
unfolding lines
heads b bs = elim (eqb b 10) as (λ v. (more : List ℕ) × (others : List (List ℕ)) × (cond v ((b ∷ []) ∷ lines bs) (with_first b (lines bs)) ≡ (b ∷ more) ∷ others)) [
  | true ↦ ([], lines bs, refl)
  | false ↦ joins b (lines bs)
]

two : (b c : ℕ) (x y : List ℕ) → is_backslash (b ∷ c ∷ x) ≡ is_backslash (b ∷ c ∷ y)
unfolding after
two b c x y = elim (eqb b 92) as (λ v. is_some (cond v (after (32 ∷ []) (c ∷ x)) None) ≡ is_some (cond v (after (32 ∷ []) (c ∷ y)) None)) [
  | true ↦ elim (eqb c 32) as (λ w. is_some (cond w (Some x) None) ≡ is_some (cond w (Some y) None)) [
    | true ↦ refl
    | false ↦ refl
  ]
  | false ↦ refl
]

alone : (b : ℕ) → is_backslash (b ∷ []) ≡ false
unfolding after
alone b = elim (eqb b 92) as (λ v. is_some (cond v (after (32 ∷ []) []) None) ≡ false) [
  | true ↦ refl
  | false ↦ refl
]

fed : (bs : List ℕ) → is_backslash (10 ∷ bs) ≡ false
unfolding after
fed bs = refl

-- the text begins so where its first line does
alike : (bs line : List ℕ) (rest : List (List ℕ)) → lines bs ≡ line ∷ rest → is_backslash line ≡ is_backslash bs
unfolding lines
alike [] line rest e = absurd cc
alike (b ∷ []) line rest e = let same : line ≡ b ∷ [] = ap (λ ls. get_or ls 0 []) (sym e ∙ one b) in ap is_backslash same
alike (b ∷ c ∷ bs) line rest e = by (eqb b 10) refl e
  where
    by : (v : Bool) → eqb b 10 ≡ v → cond v ((b ∷ []) ∷ lines (c ∷ bs)) (with_first b (lines (c ∷ bs))) ≡ line ∷ rest → is_backslash line ≡ is_backslash (b ∷ c ∷ bs)
    by true is h =
        let ten : b ≡ 10 = eqb-true b 10 is in
        let same : line ≡ b ∷ [] = ap (λ ls. get_or ls 0 []) (sym h) in
        ap is_backslash same ∙ alone b ∙ sym (ap (λ n. is_backslash (n ∷ c ∷ bs)) ten ∙ fed (c ∷ bs))
    by false is h =
        let found = heads c bs in
        let same : line ≡ b ∷ c ∷ found.0 = ap (λ ls. get_or ls 0 []) (sym h ∙ ap (with_first b) found.2) in
        ap is_backslash same ∙ two b c found.0 bs

pub no-backslash : (bs : List ℕ) → is_backslash bs ≡ false → after_backslash (lines bs) ≡ None
no-backslash bs lacks = by (lines bs) refl
  where
    by : (ls : List (List ℕ)) → lines bs ≡ ls → after_backslash ls ≡ None
    by [] e = refl
    by (line ∷ rest) e = let other : is_backslash line ≡ false = alike bs line rest e ∙ lacks in rw other refl

pub a-backslash : (bs line : List ℕ) (rest : List (List ℕ)) → is_backslash bs ≡ true → lines bs ≡ line ∷ rest → after_backslash (lines bs) ≡ Some rest
a-backslash bs line rest has e = let here : is_backslash line ≡ true = alike bs line rest e ∙ has in rw (e, here) refl

pub a-line : (text : List ℕ) (at : ℕ) (r : Option ℕ) → EndsLine text at r → is_backslash (drop at text) ≡ true → Reads (λ e. lines (drop e text)) r (after_backslash (lines (drop at text)))
a-line text at None h has = ap after_backslash h.1
a-line text at (Some e) h has = a-backslash (drop at text) (slice_range text at e) (lines (drop e text)) has h.first

pub line-range : (text : List ℕ) (at : ℕ) (r : Option ℕ) → EndsLine text at r → IfSome r (λ e. (at < e) × (e ≤ length text))
line-range text at None h = tt
line-range text at (Some e) h = (h.low, h.high)
