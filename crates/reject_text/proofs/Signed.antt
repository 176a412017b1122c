-- Signed numbers of a walk over hunks, over plain variables, and lengths of bodies.
use Rattle.std.proofs.Common.{◌≡◌, ◌⊎◌, inl, inr, ℕ, ◌+◌, ◌*◌, ◌^◌, ◌<◌, ◌≤◌, List, [], ◌∷◌, length, sym, ap, subst, ◌∙◌, to_z, of_z, w64, Fits, arith, rules}
use Rattle.std.specs.Prelude.{ℤ, pos, negsuc, ◌+ℤ◌, ◌-ℤ◌, ◌≤ℤ◌, vec_len}
use Rattle.std.specs.List.{flat_map}
use Rattle.std.proofs.lemmas.Int.{ints, to_z-of_z}
use Rattle.std.proofs.lemmas.List.{append-nil}
use Rattle.std.proofs.lemmas.List.Concat.{flat_map-cons}
use mir.Val.{SFits}
use Rattle.hunk_core.specs.declared.Form.{Form}
use Rattle.hunk_core.specs.declared.Form.TheVariants.{Normal, Ed}
use Rattle.hunk_core.specs.declared.Hunk.{Hunk}
use Rattle.hunk_core.specs.declared.Verdict.{Verdict}
use Rattle.hunk_core.specs.declared.Verdict.TheVariants.{Untried, Ignored, Nowhere, At}
use Rattle.hunk_core.specs.PlainHunk.{PlainHunk}
use Rattle.reject_text.specs.Headers.{IsRejectForm}
use Rattle.reject_text.specs.Rejects.{reject_of}
use Rattle.reject_text.specs.Starts.{if_placed}

-- ---- a number as a call gives it back

pub bits-are : (n : ℤ) (k : ℕ) → k < 2 ^ 32 → n ≤ℤ pos k → (pos 0 -ℤ pos k) ≤ℤ n → to_z w64 (of_z w64 n) ≡ n
bits-are n k few high low = omega (arith, ints)

pub low-kept : (n : ℤ) → SFits w64 n → negsuc (2 ^ 40) ≤ℤ n → negsuc (2 ^ 40) ≤ℤ to_z w64 (of_z w64 n)
low-kept n fits low = subst (λ (z : ℤ). negsuc (2 ^ 40) ≤ℤ z) (sym (to_z-of_z w64 n fits)) low

pub high-kept : (n : ℤ) → SFits w64 n → n ≤ℤ pos (2 ^ 40) → to_z w64 (of_z w64 n) ≤ℤ pos (2 ^ 40)
high-kept n fits high = subst (λ (z : ℤ). z ≤ℤ pos (2 ^ 40)) (sym (to_z-of_z w64 n fits)) high

-- ---- the net of so many lines, and that of a hunk more

pub low-enough : (n : ℤ) (s : ℕ) → s < 2 ^ 32 → (pos 0 -ℤ pos s) ≤ℤ n → negsuc (2 ^ 40) ≤ℤ n
low-enough n s few low = omega (arith, ints)

pub high-enough : (n : ℤ) (s : ℕ) → s < 2 ^ 32 → n ≤ℤ pos s → n ≤ℤ pos (2 ^ 40)
high-enough n s few high = omega (arith, ints)

pub next-fits : (n g : ℤ) (s l : ℕ) → s < 2 ^ 32 → l < 2 ^ 32 → n ≤ℤ pos s → (pos 0 -ℤ pos s) ≤ℤ n → g ≤ℤ pos l → (pos 0 -ℤ pos l) ≤ℤ g → SFits w64 (n +ℤ to_z w64 (of_z w64 g))
next-fits n g s l few short high low most least = omega (arith, ints)

pub next-is : (n g : ℤ) (s l : ℕ) → s < 2 ^ 32 → l < 2 ^ 32 → n ≤ℤ pos s → (pos 0 -ℤ pos s) ≤ℤ n → g ≤ℤ pos l → (pos 0 -ℤ pos l) ≤ℤ g → to_z w64 (of_z w64 (n +ℤ to_z w64 (of_z w64 g))) ≡ n +ℤ g
next-is n g s l few short high low most least = omega (arith, ints)

pub next-high : (m n g : ℤ) (s l t : ℕ) → m ≡ n +ℤ g → t ≡ s + l → n ≤ℤ pos s → g ≤ℤ pos l → m ≤ℤ pos t
next-high m n g s l t is sum high most = omega (arith, ints)

pub next-low : (m n g : ℤ) (s l t : ℕ) → m ≡ n +ℤ g → t ≡ s + l → (pos 0 -ℤ pos s) ≤ℤ n → (pos 0 -ℤ pos l) ≤ℤ g → (pos 0 -ℤ pos t) ≤ℤ m
next-low m n g s l t is sum low least = omega (arith, ints)

pub still-few : (s t : ℕ) → s ≤ t → t < 2 ^ 32 → s < 2 ^ 32
still-few s t le few = omega arith

-- ---- the lines that a hunk adds, less those that it drops

pub difference-fits : (f g : ℤ) (a b : ℕ) → f ≡ pos a → g ≡ pos b → a < 2 ^ 32 → b < 2 ^ 32 → SFits w64 (to_z w64 (of_z w64 f) -ℤ to_z w64 (of_z w64 g))
difference-fits f g a b first second few also = omega (arith, ints)

pub difference-is : (f g : ℤ) (a b : ℕ) → f ≡ pos a → g ≡ pos b → a < 2 ^ 32 → b < 2 ^ 32 → to_z w64 (of_z w64 (to_z w64 (of_z w64 f) -ℤ to_z w64 (of_z w64 g))) ≡ pos a -ℤ pos b
difference-is f g a b first second few also = omega (arith, ints)

pub balanced : (a b more less : ℕ) → more + b ≡ less + a → pos a -ℤ pos b ≡ pos more -ℤ pos less
balanced a b more less is = omega (arith, ints)

pub difference-high : (n : ℤ) (a b l : ℕ) → n ≡ pos a -ℤ pos b → a ≤ l → n ≤ℤ pos l
difference-high n a b l is few = omega (arith, ints)

pub difference-low : (n : ℤ) (a b l : ℕ) → n ≡ pos a -ℤ pos b → b ≤ l → (pos 0 -ℤ pos l) ≤ℤ n
difference-low n a b l is few = omega (arith, ints)

-- ---- a hunk without a place

pub none-grown : (v : Verdict) (a d : ℕ) → (v ≡ Untried) ⊎ ((v ≡ Ignored) ⊎ (v ≡ Nowhere)) → pos 0 ≡ pos (if_placed v a) -ℤ pos (if_placed v d)
none-grown v a d (inl is) = sym (ap (λ (x : Verdict). pos (if_placed x a) -ℤ pos (if_placed x d)) is)
none-grown v a d (inr (inl is)) = sym (ap (λ (x : Verdict). pos (if_placed x a) -ℤ pos (if_placed x d)) is)
none-grown v a d (inr (inr is)) = sym (ap (λ (x : Verdict). pos (if_placed x a) -ℤ pos (if_placed x d)) is)

pub none-rejected : (T : PlainHunk → List ℕ) (n : ℤ) (h : PlainHunk) (v : Verdict) → (v ≡ Untried) ⊎ ((v ≡ Ignored) ⊎ ((line : ℕ) × (fuzz : ℕ) × (offset : ℤ) × (v ≡ At line fuzz offset))) → flat_map T (reject_of n (h, v)) ≡ []
none-rejected T n h v (inl is) = ap (λ (x : Verdict). flat_map T (reject_of n (h, x))) is
none-rejected T n h v (inr (inl is)) = ap (λ (x : Verdict). flat_map T (reject_of n (h, x))) is
none-rejected T n h v (inr (inr at)) = ap (λ (x : Verdict). flat_map T (reject_of n (h, x))) at.3

pub none-high : (l : ℕ) → pos 0 ≤ℤ pos l
none-high l = omega (arith, ints)

pub none-low : (l : ℕ) → (pos 0 -ℤ pos l) ≤ℤ pos 0
none-low l = omega (arith, ints)

-- ---- lengths, forms, texts

pub body-short : (h : Hunk) → length h.body.items < 2 ^ 32 → vec_len h.body < 2 ^ 32
body-short h few = search rules

pub offset-fits : (i n : ℕ) → i < n → n < 2 ^ 32 → Fits w64 (i * 32)
offset-fits i n lt few = omega arith

pub no-form : (f : Form) → IsRejectForm f → (f ≡ Normal) ⊎ (f ≡ Ed) → ⊥
no-form f is (inl e) = subst IsRejectForm e is
no-form f is (inr e) = subst IsRejectForm e is

pub text-of-one : (T : PlainHunk → List ℕ) (h : PlainHunk) → flat_map T (h ∷ []) ≡ T h
text-of-one T h = flat_map-cons T h [] ∙ append-nil (T h)
