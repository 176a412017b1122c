-- The front of a text: lines, and numbers in digits.
use Rattle.std.proofs.Common.{◌≡◌, ◌≢◌, ℕ, zero, suc, get_or, ◌<◌, ◌≤◌, ◌^◌, ◌∷◌, List, [], ◌++◌, length, take, drop, Bool, true, false, cond, ◌==◌, bytes_eq, ltb, Option, Some, None, refl, sym, ◌∙◌, ap, subst, arith, eq-eqb}
use Rattle.std.specs.Prelude.{option_map, IsSomeAnd}
use Rattle.std.specs.List.{AllByRecursion}
use Rattle.std.proofs.lemmas.List.{take-append-drop}
use Rattle.std.proofs.lemmas.Bool.{eqb-true, ltb-true, lt-ltb}
use Rattle.std.proofs.lemmas.Slice.Eq.{bytes_eq-Decides}
use Rattle.std.proofs.Math.Seq.{take-append_seam, drop-append_seam}
use Rattle.num_text.specs.Numbers.{number_at, decimal, NoDigitFirst}
use Rattle.num_text.proofs.Runs.{number-again}
use Rattle.num_text.proofs.Decimal.{decimal-numeral}
use Rattle.series_stack.specs.Texts.{behind, cut, with_byte, first_number, small_in_digits, in_digits}

pub same_bytes : (a b : List ℕ) → bytes_eq a b ≡ true → a ≡ b
same_bytes a b is = grind (arith, bytes_eq-Decides)

pub bytes_same : (a : List ℕ) → bytes_eq a a ≡ true
bytes_same a = grind (arith, bytes_eq-Decides)

-- ---- a front
pub behind-sound : (front text rest : List ℕ) → behind front text ≡ Some rest → text ≡ front ++ rest
behind-sound front text rest e = by (bytes_eq (take (length front) text) front) refl e
  where
    by : (v : Bool) → bytes_eq (take (length front) text) front ≡ v → cond v (Some (drop (length front) text)) None ≡ Some rest → text ≡ front ++ rest
    by true is h =
        let tail : drop (length front) text ≡ rest = cc in
        sym (take-append-drop (length front) text) ∙ ap (λ (l : List ℕ). l ++ drop (length front) text) (same_bytes (take (length front) text) front is) ∙ ap (λ (l : List ℕ). front ++ l) tail
    by false is h = absurd cc

pub behind-again : (front rest : List ℕ) → behind front (front ++ rest) ≡ Some rest
behind-again front rest = rw (take-append_seam front rest, bytes_same front, drop-append_seam front rest) refl

-- ---- lines
cut-feed : (b : ℕ) (bs : List ℕ) → (b == 10) ≡ true → cut (b ∷ bs) ≡ Some ([], bs)
unfolding cut
cut-feed b bs is = rw is refl

cut-byte : (b : ℕ) (bs : List ℕ) → (b == 10) ≡ false → cut (b ∷ bs) ≡ option_map (with_byte b) (cut bs)
unfolding cut
cut-byte b bs is = rw is refl

cut-nil : cut [] ≡ None
unfolding cut
cut-nil = refl

cut-more : (b : ℕ) (bs : List ℕ) (o : Option (List ℕ × List ℕ)) (x : List ℕ × List ℕ) → ((y : List ℕ × List ℕ) → o ≡ Some y → bs ≡ y.0 ++ 10 ∷ y.1) → option_map (with_byte b) o ≡ Some x → b ∷ bs ≡ x.0 ++ 10 ∷ x.1
cut-more b bs None x tail e = absurd cc
cut-more b bs (Some y) x tail e =
    let same : with_byte b y ≡ x = cc in
    subst (λ (z : List ℕ × List ℕ). b ∷ bs ≡ z.0 ++ 10 ∷ z.1) same (ap (λ (l : List ℕ). b ∷ l) (tail y refl))

-- what is cut joins again
pub cut-sound : (text : List ℕ) (x : List ℕ × List ℕ) → cut text ≡ Some x → text ≡ x.0 ++ 10 ∷ x.1
cut-sound [] x e = absurd (let no : ◌≡◌ {A = Option (List ℕ × List ℕ)} None (Some x) = sym cut-nil ∙ e in cc)
cut-sound (b ∷ bs) x e = by (λ y h. cut-sound bs y h) (b == 10) refl
  where
    by : ((y : List ℕ × List ℕ) → cut bs ≡ Some y → bs ≡ y.0 ++ 10 ∷ y.1) → (v : Bool) → (b == 10) ≡ v → b ∷ bs ≡ x.0 ++ 10 ∷ x.1
    by tail true is =
        let h : ◌≡◌ {A = Option (List ℕ × List ℕ)} (Some ([], bs)) (Some x) = sym (cut-feed b bs is) ∙ e in
        let found : List ℕ × List ℕ = ([], bs) in
        let same : found ≡ x = cc in
        subst (λ (z : List ℕ × List ℕ). b ∷ bs ≡ z.0 ++ 10 ∷ z.1) same (ap (λ (n : ℕ). n ∷ bs) (eqb-true b 10 is))
    by tail false is = cut-more b bs (cut bs) x tail (sym (cut-byte b bs is) ∙ e)

-- no line feed in it
abbrev pub FreeOfFeeds : List ℕ → Type 0
FreeOfFeeds line = AllByRecursion (λ b. (b == 10) ≡ false) line

pub cut-again : (line rest : List ℕ) → FreeOfFeeds line → cut (line ++ 10 ∷ rest) ≡ Some (line, rest)
cut-again [] rest free = cut-feed 10 rest refl
cut-again (b ∷ line) rest free = cut-byte b (line ++ 10 ∷ rest) free.0 ∙ ap (λ o. option_map (with_byte b) o) (cut-again line rest free.1)

-- ---- numbers
digits-sound : (text : List ℕ) (n : ℕ) (o : Option (List ℕ)) (x : ℕ × List ℕ) → ((rest : List ℕ) → o ≡ Some rest → text ≡ decimal n ++ rest) → n < 2 ^ 32 → option_map (λ (rest : List ℕ). (n, rest)) o ≡ Some x → (text ≡ decimal x.0 ++ x.1) × (x.0 < 2 ^ 32)
digits-sound text n None x tail small e = absurd cc
digits-sound text n (Some rest) x tail small e =
    let found : ℕ × List ℕ = (n, rest) in
    let same : found ≡ x = cc in
    subst (λ (y : ℕ × List ℕ). (text ≡ decimal y.0 ++ y.1) × (y.0 < 2 ^ 32)) same (tail rest refl, small)

small-sound : (text : List ℕ) (o : Option (ℕ × List ℕ)) (x : ℕ × List ℕ) → small_in_digits text o ≡ Some x → (text ≡ decimal x.0 ++ x.1) × (x.0 < 2 ^ 32)
small-sound text None x e = absurd cc
small-sound text (Some n) x e = by (ltb n.0 (2 ^ 32)) refl e
  where
    by : (v : Bool) → ltb n.0 (2 ^ 32) ≡ v → cond v (in_digits text n.0) None ≡ Some x → (text ≡ decimal x.0 ++ x.1) × (x.0 < 2 ^ 32)
    by true is h = digits-sound text n.0 (behind (decimal n.0) text) x (λ rest r. behind-sound (decimal n.0) text rest r) (ltb-true n.0 (2 ^ 32) is) h
    by false is h = absurd cc

pub number-sound : (text : List ℕ) (x : ℕ × List ℕ) → first_number text ≡ Some x → (text ≡ decimal x.0 ++ x.1) × (x.0 < 2 ^ 32)
unfolding first_number
number-sound text x e = small-sound text (number_at text) x e

pub number-behind : (n : ℕ) (rest : List ℕ) → n < 2 ^ 32 → NoDigitFirst rest → first_number (decimal n ++ rest) ≡ Some (n, rest)
unfolding first_number
number-behind n rest small none =
    let lt : ltb n (2 ^ 32) ≡ true = lt-ltb n (2 ^ 32) small in
    ap (λ o. small_in_digits (decimal n ++ rest) o) (number-again (decimal n) n rest (decimal-numeral n) none)
    ∙ rw lt (ap (λ (o : Option (List ℕ)). option_map (λ (more : List ℕ). (n, more)) o) (behind-again (decimal n) rest))

-- ---- the place of a line feed
not_feed : (b : ℕ) → b ≢ 10 → (b == 10) ≡ false
not_feed b ne = by (b == 10) refl
  where
    by : (v : Bool) → (b == 10) ≡ v → v ≡ false
    by true is = absurd (ne (eqb-true b 10 is))
    by false is = refl

pub cut-at : (text : List ℕ) (k : ℕ) → k < length text → get_or text k 0 ≡ 10 → ((i : ℕ) → i < k → get_or text i 0 ≢ 10) → cut text ≡ Some (take k text, drop (suc k) text)
cut-at [] k lt is before = absurd (let no : ⊥ = omega (arith, lt) in no)
cut-at (b ∷ bs) zero lt is before = cut-feed b bs (eq-eqb b 10 is)
cut-at (b ∷ bs) (suc k) lt is before =
    cut-byte b bs (not_feed b (before zero (omega arith)))
    ∙ ap (λ o. option_map (with_byte b) o) (cut-at bs k (omega (arith, lt)) is (λ i below. before (suc i) (omega (arith, below))))

pub cut-none : (text : List ℕ) → ((i : ℕ) → i < length text → get_or text i 0 ≢ 10) → cut text ≡ None
cut-none [] before = cut-nil
cut-none (b ∷ bs) before =
    cut-byte b bs (not_feed b (before zero (omega arith)))
    ∙ ap (λ o. option_map (with_byte b) o) (cut-none bs (λ i below. before (suc i) (omega (arith, below))))

-- ---- the number at the front, as it is read
pub number-value : (text : List ℕ) (n : ℕ) (rest : List ℕ) → number_at text ≡ Some (n, rest) → n < 2 ^ 32 → first_number text ≡ in_digits text n
unfolding first_number
number-value text n rest is small =
    let lt : ltb n (2 ^ 32) ≡ true = lt-ltb n (2 ^ 32) small in
    ap (λ o. small_in_digits text o) is ∙ rw lt refl

pub number-none : (text : List ℕ) → number_at text ≡ None → first_number text ≡ None
unfolding first_number
number-none text is = ap (λ o. small_in_digits text o) is

pub number-large : (text : List ℕ) (o : Option (ℕ × List ℕ)) → number_at text ≡ o → IsSomeAnd o (λ x. 2 ^ 32 ≤ x.0) → first_number text ≡ None
unfolding first_number
number-large text None is large = absurd large
number-large text (Some x) is large = ap (λ o. small_in_digits text o) is ∙ by (ltb x.0 (2 ^ 32)) refl
  where
    by : (v : Bool) → ltb x.0 (2 ^ 32) ≡ v → cond v (in_digits text x.0) None ≡ None
    by true lt = absurd (let h = ltb-true x.0 (2 ^ 32) lt in let no : ⊥ = omega (arith, h, large) in no)
    by false ge = refl
