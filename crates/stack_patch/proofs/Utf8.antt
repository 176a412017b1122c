-- A text in UTF-8 stays so without some of its components.
use Rattle.std.proofs.Common.{◌≡◌, ℕ, suc, ◌+◌, ◌<◌, ◌≤◌, zero, List, [], ◌∷◌, ◌++◌, length, take, drop, get_or, codes, Bool, true, false, cond, ◌==◌, refl, sym, ◌∙◌, ap, subst, arith}
use Rattle.std.specs.List.{join_with_byte}
use Rattle.std.specs.Str.{IsUtf8, IsAscii, IsCharBoundary, is_utf8}
use Rattle.std.specs.Str.Lossy.{valid_len_up_to, utf8_valid_len}
use Rattle.std.proofs.lemmas.Str.{IsUtf8-nil, IsUtf8-append, IsUtf8-take, IsUtf8-drop, IsUtf8-from_is_utf8, IsUtf8-from_ascii, IsCharBoundary-before_ascii, IsCharBoundary-after_ascii}
use Rattle.std.proofs.lemmas.List.{length-append}
use Rattle.std.proofs.Math.Seq.{take-append_seam, drop-append-add, get_or-append_seam, take-length}
use Rattle.std.proofs.lemmas.Str.Ascii.{IsAscii-nil}
use Rattle.outside.specs.Names.{components, kept, is_kept, normal_form}
use Rattle.outside.proofs.Components.{Each, joined}
use Rattle.outside.proofs.Lawful.{each_filter}

-- ---- what is UTF-8 to its whole length is

valid_front : (bs : List ℕ) (n : ℕ) → IsUtf8 (take (valid_len_up_to bs n) bs)
valid_front bs zero = IsUtf8-nil
valid_front bs (suc n) = elim (is_utf8 (take (suc n) bs)) as (λ b. is_utf8 (take (suc n) bs) ≡ b → IsUtf8 (take (cond b (suc n) (valid_len_up_to bs n)) bs)) [
  | true ↦ λ is. IsUtf8-from_is_utf8 (take (suc n) bs) is
  | false ↦ λ is. valid_front bs n
] refl

pub whole_valid : (bs : List ℕ) → utf8_valid_len bs ≡ length bs → IsUtf8 bs
unfolding utf8_valid_len
whole_valid bs whole = subst (λ (l : List ℕ). IsUtf8 l) (ap (λ n. take n bs) whole ∙ take-length bs) (valid_front bs (length bs))

-- ---- the two sides of a slash

module _ (c r : List ℕ) (is : IsUtf8 (c ++ 47 ∷ r)) where
  within : length c < length (c ++ 47 ∷ r)
  within = omega (arith, length-append c (47 ∷ r))

  ascii : get_or (c ++ 47 ∷ r) (length c) 0 < 128
  ascii = subst (λ n. n < 128) (sym (get_or-append_seam c 47 r 0)) (omega arith)

  front_valid : IsUtf8 c
  front_valid = subst (λ (l : List ℕ). IsUtf8 l) (take-append_seam c (47 ∷ r)) (IsUtf8-take (c ++ 47 ∷ r) (length c) is (IsCharBoundary-before_ascii (c ++ 47 ∷ r) (length c) within ascii))

  behind_valid : IsUtf8 r
  behind_valid = subst (λ (l : List ℕ). IsUtf8 l) (drop-append-add c (47 ∷ r) 1) (IsUtf8-drop (c ++ 47 ∷ r) (length c + 1) is (IsCharBoundary-after_ascii (c ++ 47 ∷ r) (length c) is within ascii))

parts_valid : (cs : List (List ℕ)) → IsUtf8 (join_with_byte 47 cs) → Each IsUtf8 cs
parts_valid [] is = tt
parts_valid (c ∷ []) is = (is, tt)
parts_valid (c ∷ d ∷ cs) is = (front_valid c (join_with_byte 47 (d ∷ cs)) is, parts_valid (d ∷ cs) (behind_valid c (join_with_byte 47 (d ∷ cs)) is))

-- a byte more
ascii_next : (b : ℕ) (bs : List ℕ) → b < 128 → IsAscii bs → IsAscii (b ∷ bs)
ascii_next b bs less is zero = less
ascii_next b bs less is (suc i) = is i

slash_valid : IsUtf8 (47 ∷ [])
slash_valid = IsUtf8-from_ascii (47 ∷ []) (ascii_next 47 [] (omega arith) IsAscii-nil)

pub rej_valid : IsUtf8 (codes ".rej")
rej_valid = IsUtf8-from_ascii (codes ".rej")
    (ascii_next 46 (codes "rej") (omega arith) (ascii_next 114 (codes "ej") (omega arith) (ascii_next 101 (codes "j") (omega arith) (ascii_next 106 [] (omega arith) IsAscii-nil))))

joined_valid : (cs : List (List ℕ)) → Each IsUtf8 cs → IsUtf8 (join_with_byte 47 cs)
joined_valid [] each = IsUtf8-nil
joined_valid (c ∷ []) each = each.0
joined_valid (c ∷ d ∷ cs) each = IsUtf8-append c (47 ∷ join_with_byte 47 (d ∷ cs)) each.0 (IsUtf8-append (47 ∷ []) (join_with_byte 47 (d ∷ cs)) slash_valid (joined_valid (d ∷ cs) each.1))

pub normal_valid : (text : List ℕ) → IsUtf8 text → IsUtf8 (normal_form text)
normal_valid text is = joined_valid (kept text) (each_filter is_kept IsUtf8 (components text) (parts_valid (components text) (subst (λ (l : List ℕ). IsUtf8 l) (sym (joined text)) is)))
