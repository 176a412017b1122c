-- Lists with numbers, and what stands at a place of them.
use Rattle.std.proofs.Common.{◌≡◌, ℕ, zero, suc, ◌+◌, ◌<◌, Bool, true, false, ◌||◌, cond, List, [], ◌∷◌, ◌++◌, length, get_or, map, Option, Some, refl, sym, ap, subst, ◌∙◌, arith}
use Rattle.std.specs.Prelude.{slice_get, filter, option_map}
use Rattle.std.specs.List.{flat_map, list_any, zip}
use Rattle.std.specs.Option.{ForSome}
use Rattle.std.proofs.lemmas.List.{length-map}
use Rattle.std.proofs.lemmas.List.Concat.{flat_map-cons}
use Rattle.std.proofs.lemmas.Option.{get_or_from_slice_get, same_Some, slice_get-map, slice_get-get_or}
use Rattle.read_file_patch.specs.declared.Change.{Change}
use Rattle.read_file_patch.specs.PlainPatch.{PlainChange, hunks, script, hunk_count, row_count, change_of}
use Rattle.patch_set.proofs.Named.{rows-counted}
use Rattle.cli_tool_words.specs.PlainJobs.{PlainFilterJob}
use Rattle.line_list.proofs.Elements.{behind, numbered-from, numbered-long}
use Rattle.filter_choice.specs.Selected.{numbered}
use Rattle.filter_choice.specs.OldLines.{old_numbers, old_of_each}
use Rattle.filter_choice.specs.Kept.{is_kept, kept}

-- ---- an element of an option

pub for-some : {A : Type 0} (P : A → Type 0) (o : Option A) (x : A) → o ≡ Some x → P x → ForSome o P
for-some P o x is p = λ y also. subst P (same_Some x y (sym is ∙ also)) p

-- ---- a test of what elements stand for

pub any-map : {A B : Type 0} (test : B → Bool) (f : A → B) (xs : List A) → list_any (λ x. test (f x)) xs ≡ list_any test (map f xs)
any-map test f [] = refl
any-map test f (x ∷ xs) = ap (λ b. test (f x) || b) (any-map test f xs)

-- ---- what is written where a test holds

pub flat-if : {A : Type 0} (test : A → Bool) (f : A → List ℕ) (xs : List A) → flat_map f (filter test xs) ≡ flat_map (λ x. cond (test x) (f x) []) xs
flat-if test f [] = refl
flat-if {A = A} test f (x ∷ xs) =
    (elim (test x) as (λ b. flat_map f (cond b (x ∷ filter test xs) (filter test xs)) ≡ cond b (f x) [] ++ flat_map (λ (y : A). cond (test y) (f y) []) xs) [
      | true ↦ flat_map-cons f x (filter test xs) ∙ ap (λ t. f x ++ t) (flat-if test f xs)
      | false ↦ flat-if test f xs
    ])
    ∙ sym (flat_map-cons (λ (y : A). cond (test y) (f y) []) x xs)

-- ---- numbers
pub numbered-at : {A : Type 0} (xs : List A) (i : ℕ) (x : A) → slice_get xs i ≡ Some x → slice_get (numbered xs) i ≡ Some (suc i, x)
numbered-at {A = A} xs i x is = let e : 1 + i ≡ suc i = omega arith in numbered-from 1 xs i x is ∙ ap (λ n. behind n x) e

pub numbered-count : {A : Type 0} (xs : List A) → length (numbered xs) ≡ length xs
numbered-count xs = numbered-long 1 xs

-- ---- which hunks are kept

olds-count : (c : PlainChange) → length (old_of_each c) ≡ hunk_count c
olds-count (hunks hs) = length-map hs old_numbers
olds-count (script es) = refl

-- the flag of a hunk whose old lines are these
pub flags-at : (j : PlainFilterJob) (each : List (List ℕ)) (i : ℕ) (olds : List ℕ) → slice_get each i ≡ Some olds → get_or (map (λ h. is_kept j h.0 h.1) (numbered each)) i false ≡ is_kept j (suc i) olds
flags-at j each i olds is =
    get_or_from_slice_get (map (λ h. is_kept j h.0 h.1) (numbered each)) i (is_kept j (suc i) olds) false
    (slice_get-map (λ (h : ℕ × List ℕ). is_kept j h.0 h.1) (numbered each) i ∙ ap (option_map (λ (h : ℕ × List ℕ). is_kept j h.0 h.1)) (numbered-at each i olds is))

pub flag-at : (j : PlainFilterJob) (c : PlainChange) (i : ℕ) (olds : List ℕ) → slice_get (old_of_each c) i ≡ Some olds → get_or (kept j c) i false ≡ is_kept j (suc i) olds
flag-at j c i olds is = flags-at j (old_of_each c) i olds is

pub olds-there : (text : List ℕ) (c : Change) (i : ℕ) → i < row_count c → slice_get (old_of_each (change_of text c)) i ≡ Some (get_or (old_of_each (change_of text c)) i [])
olds-there text c i lt = slice_get-get_or (old_of_each (change_of text c)) i [] (omega (arith, lt, olds-count (change_of text c), rows-counted text c))

pub flags-count : (j : PlainFilterJob) (each : List (List ℕ)) → length (map (λ h. is_kept j h.0 h.1) (numbered each)) ≡ length each
flags-count j each = length-map (numbered each) (λ (h : ℕ × List ℕ). is_kept j h.0 h.1) ∙ numbered-count each

pub kept-count : (j : PlainFilterJob) (c : PlainChange) → length (kept j c) ≡ hunk_count c
kept-count j c = flags-count j (old_of_each c) ∙ olds-count c

pub kept-long : (j : PlainFilterJob) (text : List ℕ) (c : Change) → length (kept j (change_of text c)) ≡ row_count c
kept-long j text c = kept-count j (change_of text c) ∙ rows-counted text c

-- ---- two lists side by side

pub zip-at : {A B : Type 0} (xs : List A) (ys : List B) (i : ℕ) (x : A) (y : B) → slice_get xs i ≡ Some x → slice_get ys i ≡ Some y → slice_get (zip xs ys) i ≡ Some (x, y)
zip-at [] ys i x y is also = absurd cc
zip-at (a ∷ xs) [] i x y is also = absurd cc
zip-at {A = A} {B = B} (a ∷ xs) (b ∷ ys) zero x y is also = ap (λ (z : A). Some (z, b)) (same_Some a x is) ∙ ap (λ (z : B). Some (x, z)) (same_Some b y also)
zip-at (a ∷ xs) (b ∷ ys) (suc i) x y is also = zip-at xs ys i x y is also

pub zip-count : {A B : Type 0} (xs : List A) (ys : List B) → length xs ≡ length ys → length (zip xs ys) ≡ length ys
zip-count [] [] same = refl
zip-count [] (b ∷ ys) same = absurd cc
zip-count (a ∷ xs) [] same = absurd cc
zip-count (a ∷ xs) (b ∷ ys) same = ap suc (zip-count xs ys (omega (arith, same)))
