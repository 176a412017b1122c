-- How lines begin and end.
use Rattle.std.proofs.Common.{◌≡◌, ◌↔◌, ℕ, suc, ◌+◌, ◌-◌, ◌≤◌, ◌<◌, Bool, true, false, cond, ◌&&◌, eqb, List, [], ◌∷◌, ◌++◌, length, get_or, take, drop, slice_range, Option, None, Some, refl, sym, ap, arith}
use Rattle.std.specs.Prelude.{MatchOption, is_some}
use Rattle.std.specs.Borrow.{Bor}
use Rattle.std.proofs.lemmas.Bool.{eqb-true, false≢true}
use Rattle.std.proofs.lemmas.List.{length-take, length-drop, take-take, drop_more}
use lib.Pointwise.{pointwise}
use Rattle.line_list.proofs.Choices.{some_is}
use Rattle.line_list.specs.Reader.{Reads}
use Rattle.hunk_core.specs.LineTests.{after, is_backslash, ends_line}

-- a prefix that stands there
after-some : (prefix bytes : List ℕ) → pointwise eqb (take (length prefix) bytes) prefix ≡ true → after prefix bytes ≡ Some (drop (length prefix) bytes)
unfolding after
after-some [] bytes h = refl
after-some (p ∷ prefix) [] h = absurd (false≢true h)
after-some (p ∷ prefix) (b ∷ bytes) h =
    elim (eqb b p) as (λ v. (v && pointwise eqb (take (length prefix) bytes) prefix) ≡ true → cond v (after prefix bytes) None ≡ Some (drop (length prefix) bytes)) [
      | true ↦ λ same. after-some prefix bytes same
      | false ↦ λ same. absurd (false≢true same)
    ] h

-- a prefix that doesn't
after-none : (prefix bytes : List ℕ) → pointwise eqb (take (length prefix) bytes) prefix ≡ false → after prefix bytes ≡ None
unfolding after
after-none [] bytes h = absurd cc
after-none (p ∷ prefix) [] h = refl
after-none (p ∷ prefix) (b ∷ bytes) h =
    elim (eqb b p) as (λ v. (v && pointwise eqb (take (length prefix) bytes) prefix) ≡ false → cond v (after prefix bytes) None ≡ None) [
      | true ↦ λ same. after-none prefix bytes same
      | false ↦ λ same. refl
    ] h

pub strips : (prefix bytes : List ℕ) (r : Option (Bor (List ℕ))) → MatchOption r (pointwise eqb (take (length prefix) bytes) prefix ≡ false) (λ x. (pointwise eqb (take (length prefix) bytes) prefix ≡ true) × (x.now ≡ drop (length prefix) bytes) × (length x.now + length prefix ≡ length bytes)) → Reads (λ x. x.now) r (after prefix bytes)
strips prefix bytes None h = after-none prefix bytes h
strips prefix bytes (Some x) h = rw h.1 (after-some prefix bytes h.0)

pub after-takes : (prefix bytes rest : List ℕ) → after prefix bytes ≡ Some rest → bytes ≡ prefix ++ rest
unfolding after
after-takes [] bytes rest e = some_is bytes rest (Some bytes) refl e
after-takes (p ∷ prefix) [] rest e = absurd cc
after-takes (p ∷ prefix) (b ∷ bytes) rest e = by (eqb b p) refl e (after-takes prefix bytes rest)
  where
    by : (v : Bool) → eqb b p ≡ v → cond v (after prefix bytes) None ≡ Some rest → (after prefix bytes ≡ Some rest → bytes ≡ prefix ++ rest) → b ∷ bytes ≡ p ∷ (prefix ++ rest)
    by true same h more = let first : b ≡ p = eqb-true b p same in let others = more h in cc
    by false same h more = absurd cc

pub after-again : (prefix rest : List ℕ) → after prefix (prefix ++ rest) ≡ Some rest
unfolding after
after-again [] rest = refl
after-again (p ∷ prefix) rest = let same : eqb p p ≡ true = grind arith in rw same (after-again prefix rest)

-- ---- in words

pub prefix-words : (prefix bytes rest : List ℕ) → after prefix bytes ≡ Some rest ↔ bytes ≡ prefix ++ rest
prefix-words prefix bytes rest = (λ e. after-takes prefix bytes rest e, λ e. rw e (after-again prefix rest))

pub has_some : {A : Type 0} (o : Option A) → is_some o ≡ true → (x : A) × (o ≡ Some x)
has_some None e = absurd cc
has_some (Some x) e = (x, refl)

pub backslash-words : (line : List ℕ) → is_backslash line ≡ true ↔ ((rest : List ℕ) × (line ≡ 92 ∷ 32 ∷ rest))
backslash-words line = (
  λ e. let s = has_some (after (92 ∷ 32 ∷ []) line) e in (s.0, after-takes (92 ∷ 32 ∷ []) line s.0 s.1),
  λ h. rw (h.1, after-again (92 ∷ 32 ∷ []) h.0) refl,
)

ended : (line : List ℕ) → ends_line line ≡ true → (front : List ℕ) × (line ≡ front ++ 10 ∷ [])
ended [] e = absurd cc
ended (b ∷ []) e = ([], ap (λ x. x ∷ []) (eqb-true b 10 e))
ended (b ∷ c ∷ bytes) e = let more = ended (c ∷ bytes) e in (b ∷ more.0, ap (λ l. b ∷ l) more.1)

pub longer-ends : (b : ℕ) (line : List ℕ) → ends_line line ≡ true → ends_line (b ∷ line) ≡ true
longer-ends b [] e = absurd cc
longer-ends b (c ∷ bytes) e = e

pub ends-behind : (front : List ℕ) → ends_line (front ++ 10 ∷ []) ≡ true
ends-behind [] = refl
ends-behind (b ∷ front) = longer-ends b (front ++ 10 ∷ []) (ends-behind front)

pub feed-words : (line : List ℕ) → ends_line line ≡ true ↔ ((front : List ℕ) × (line ≡ front ++ 10 ∷ []))
feed-words line = (λ e. ended line e, λ h. rw h.1 (ends-behind h.0))

pub ends-last : (line : List ℕ) → 0 < length line → eqb (get_or line (length line - 1) 0) 10 ≡ ends_line line
ends-last [] lt = absurd (omega arith)
ends-last (b ∷ []) lt = refl
ends-last (b ∷ c ∷ bs) lt =
    let k : length (b ∷ c ∷ bs) - 1 ≡ suc (length (c ∷ bs) - 1) = omega arith in
    rw k (ends-last (c ∷ bs) (omega arith))

pub slice-short : (text : List ℕ) (at end : ℕ) → end ≤ length text → slice_range text at (end - 1) ≡ take (length (slice_range text at end) - 1) (slice_range text at end)
slice-short text at end le =
    let len : length (slice_range text at end) ≡ end - at = omega (arith, length-take (end - at) (drop at text), length-drop at text) in
    let width : (end - 1) - at ≡ (end - at) - 1 = omega arith in
    rw (len, width) (sym (take-take ((end - at) - 1) (end - at) (drop at text) (omega arith)))

pub slice-none : (text : List ℕ) (at end : ℕ) → at ≡ end → slice_range text at end ≡ take (length (slice_range text at end) - 1) (slice_range text at end)
slice-none text at end e =
    let width : end - at ≡ 0 = omega (arith, e) in
    rw width refl

pub slice-first : (text : List ℕ) (at end : ℕ) → at < end → end ≤ length text → slice_range text at end ≡ get_or text at 0 ∷ slice_range text (at + 1) end
slice-first text at end lt le =
    let here : drop at text ≡ get_or text at 0 ∷ drop (at + 1) text = drop_more text at 0 (omega arith) in
    let width : end - at ≡ suc (end - (at + 1)) = omega arith in
    rw (width, here) refl

pub slice-length : (text : List ℕ) (at end : ℕ) → end ≤ length text → length (slice_range text at end) ≡ end - at
slice-length text at end le = omega (arith, length-take (end - at) (drop at text), length-drop at text)

pub some-not : (n : ℕ) → eqb (suc n) 0 ≡ false
some-not n = grind arith
