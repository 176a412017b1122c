-- Bits that tell which bytes are line feeds.
use Rattle.std.proofs.Common.{◌≡◌, ◌↔◌, ℕ, ◌+◌, ◌-◌, ◌*◌, ◌/◌, ◌%◌, ◌^◌, ◌<◌, ◌≤◌, Bool, true, false, cond, eqb, List, get_or, length, map, take, drop, refl, sym, ap, subst, ◌∙◌, arith, Fits, w64, pow_mono, eq-eqb, set, ⊎_elim}
use Rattle.std.specs.Int.{bit_at, trailing_zeros}
use Rattle.std.specs.Simd.Lanes.{mask_l}
use Rattle.std.proofs.lemmas.Bool.{cases_lt, eqb-true, eqb-false}
use Rattle.std.proofs.lemmas.List.{get_or-set_same, get_or-set_other}
use Rattle.std.proofs.lemmas.List.{get_or-drop, length-drop}
use Rattle.std.proofs.lemmas.Nat.{shr-shr}
use Rattle.std.proofs.lemmas.Nat.Bits.{bit_at-trailing_zeros, bit_at-zero}
use Rattle.std.proofs.lemmas.Simd.{bit_mask_l, get_or-chunk}
use Rattle.std.proofs.Math.ListN.{get_or-map}
use Rattle.std.proofs.Math.Nat.{div-le_self, div-eq_of_lt}
use Rattle.line_list.specs.Feeds.{AreMarks, NoFeed}
use Rattle.line_list.specs.Lines.{IsLineAt}
use Rattle.line_list.proofs.LineLemmas.{line-at-feed}

-- ---- the first bit that isn't below a place

pub shifted : (m by k : ℕ) → bit_at (m / 2 ^ by) k ≡ bit_at m (by + k)
shifted m by k = ap (λ x. x % 2) (shr-shr m by k)

pub none-set : (m by : ℕ) → m / 2 ^ by ≡ 0 → (k : ℕ) → bit_at m (by + k) ≡ 0
none-set m by none k = sym (shifted m by k) ∙ ap (λ x. bit_at x k) none ∙ bit_at-zero k

-- no bit stands at 64 or higher
low : (m k : ℕ) → m < 2 ^ 64 → bit_at m k ≡ 1 → k < 64
low m k fits is =
    ⊎_elim (λ l. l) (λ ge.
    let clear : bit_at m k ≡ 0 = ap (λ x. x % 2) (div-eq_of_lt (omega (arith, pow_mono {i = 64} {j = k} ge))) in
    absurd (omega (arith, clear, is))) (cases_lt k 64)

-- the first bit that is set from a place on
pub record IsFirstMark (m passed k : ℕ) : Type 0 where
  pub within : passed + k < 64
  pub set : bit_at m (passed + k) ≡ 1
  pub below : (j : ℕ) → j < k → bit_at m (passed + j) ≡ 0

pub first-mark : (m passed : ℕ) → m < 2 ^ 64 → 0 < m / 2 ^ passed → IsFirstMark m passed (trailing_zeros w64 (m / 2 ^ passed))
first-mark m passed fits some =
    let left = m / 2 ^ passed in
    let found = bit_at-trailing_zeros w64 left some (omega (arith, div-le_self m (2 ^ passed))) in
    let set : bit_at m (passed + trailing_zeros w64 left) ≡ 1 = sym (shifted m passed (trailing_zeros w64 left)) ∙ found.1 in
    record {
      within = low m (passed + trailing_zeros w64 left) fits set;
      set = set;
      below = λ j l. sym (shifted m passed j) ∙ found.2 j l;
    }

-- ---- the bits of a comparison

tells : (x : ℕ) (b : Bool) → eqb x 10 ≡ b → (cond {A = ℕ} b 1 0 ≡ 1) ↔ (x ≡ 10)
tells x true e = (λ h. eqb-true x 10 e, λ h. refl)
tells x false e = (λ h. absurd (omega (arith, h)), λ h. absurd (eqb-false x 10 e h))

pub compared : (text : List ℕ) (at k : ℕ) → k < 64 → (bit_at (mask_l (map (λ x. eqb x 10) (take 64 (drop at text)))) k ≡ 1) ↔ (get_or text (at + k) 0 ≡ 10)
compared text at k l =
    let x = get_or text (at + k) 0 in
    let is : bit_at (mask_l (map (λ x. eqb x 10) (take 64 (drop at text)))) k ≡ cond (eqb x 10) 1 0 =
    bit_mask_l (map (λ x. eqb x 10) (take 64 (drop at text))) k
    ∙ ap (λ b. cond b 1 0) (get_or-map (λ x. eqb x 10) (take 64 (drop at text)) k 0 ∙ ap (λ y. eqb y 10) (get_or-chunk at 64 text k 0 l)) in
    let t = tells x _ refl in
    (λ h. t.0 (sym is ∙ h), λ h. is ∙ t.1 h)

-- ---- the end of a line by them

line-to : (text : List ℕ) (at k : ℕ) → at + k < length text → NoFeed text at (at + k) → get_or text (at + k) 0 ≡ 10 → IsLineAt text at (at + k + 1)
line-to text at k high none is =
    let len : length (drop at text) ≡ length text - at = length-drop at text in
    line-at-feed text at k (omega arith)
    (record {
      low = omega arith;
      high = omega (arith, len);
      before = λ j above l passes. none (at + j) (omega arith) (omega arith) (sym (get_or-drop at text j 0) ∙ eqb-true _ _ passes);
    })
    (eq-eqb _ _ (get_or-drop at text k 0 ∙ is))

-- no line feed stands where no bit is set
no-feed : (text : List ℕ) (base m from to : ℕ) → AreMarks text base m → to ≤ 64 → ((j : ℕ) → from + j < to → bit_at m (from + j) ≡ 0) → NoFeed text (base + from) (base + to)
no-feed text base m from to marks high none j above below is =
    let k = j - base in
    let there = (marks.each k (omega arith)).1 (subst (λ n. get_or text n 0 ≡ 10) (omega arith) is) in
    let clear = none (k - from) (omega arith) in
    let same : from + (k - from) ≡ k = omega arith in
    absurd (omega (arith, there, subst (λ n. bit_at m n ≡ 0) same clear))

pub no-feed-left : (text : List ℕ) (base m from : ℕ) → AreMarks text base m → ((j : ℕ) → bit_at m (from + j) ≡ 0) → NoFeed text (base + from) (base + 64)
no-feed-left text base m from marks none = no-feed text base m from 64 marks (omega arith) (λ j l. none j)

-- behind bytes with no line feed the line ends at the first bit of a word
pub line-by : (text : List ℕ) (at base m from k : ℕ) → at ≤ base + from → NoFeed text at (base + from) → AreMarks text base m → IsFirstMark m from k → IsLineAt text at (base + from + k + 1)
line-by text at base m from k order before marks first =
    let e = base + from + k in
    let is : get_or text e 0 ≡ 10 = subst (λ n. get_or text n 0 ≡ 10) (omega arith) ((marks.each (from + k) first.within).0 first.set) in
    let none : NoFeed text at e = λ j above below feed. ⊎_elim (λ l. before j above l feed)
    (λ ge. no-feed text base m from (from + k) marks (omega (arith, first.within)) (λ i l. first.below i (omega arith)) j ge (omega arith) feed)
    (cases_lt j (base + from)) in
    let same : at + (e - at) ≡ e = omega arith in
    subst (λ n. IsLineAt text at (n + 1)) same
    (line-to text at (e - at) (omega (arith, marks.within, first.within)) (subst (NoFeed text at) (sym same) none) (subst (λ n. get_or text n 0 ≡ 10) (sym same) is))

-- ---- a word more

pub marks-more : (text : List ℕ) (at : ℕ) (words : List ℕ) (word m : ℕ) → word < length words → ((w : ℕ) → w < word → AreMarks text (at + 64 * w) (get_or words w 0))
    → AreMarks text (at + 64 * word) m → (w : ℕ) → w < word + 1 → AreMarks text (at + 64 * w) (get_or (set words word m) w 0)
marks-more text at words word m high done marks w below =
    ⊎_elim
    (λ l. subst (AreMarks text (at + 64 * w)) (sym (get_or-set_other words word w m 0 (λ e. absurd (omega (arith, l, e))))) (done w l))
    (λ ge.
    let same : word ≡ w = omega arith in
    subst (λ n. AreMarks text (at + 64 * n) (get_or (set words word m) n 0)) same (subst (AreMarks text (at + 64 * word)) (sym (get_or-set_same words word m 0 high)) marks))
    (cases_lt w word)

-- ---- places by them

-- the word of marks at a place, and its bits, stand within the text
pub mark-fits : {text : List ℕ} {base m : ℕ} (k : ℕ) → AreMarks text base m → length text < 2 ^ 64 → 0 + k < 64 → (Fits w64 base) × (Fits w64 (base + k)) × (Fits w64 (base + k + 1))
mark-fits k marks long small = (omega (arith, marks.within, long), omega (arith, marks.within, long, small), omega (arith, marks.within, long, small))

pub word-below : (w count : ℕ) → w < count → count ≤ 8 → w < 8
word-below w count lt few = omega (arith, lt, few)

pub word-fits : (w : ℕ) → w < 8 → (Fits w64 (w * 8)) × (Fits w64 (64 * w)) × (Fits w64 (w + 1))
word-fits w lt = (omega (arith, lt), omega (arith, lt), omega (arith, lt))

pub next-word : (at base : ℕ) → base ≤ at → at ≤ base + 64 * ((at - base) / 64 + 1)
next-word at base le = omega (arith, le)

pub within-word : (n : ℕ) → n % 64 < 64
within-word n = omega arith
