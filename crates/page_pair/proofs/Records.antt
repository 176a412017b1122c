-- Bytes written one behind another on a page.
use Rattle.std.proofs.Common.{◌≡◌, ℕ, ◌+◌, ◌-◌, ◌≤◌, List, [], ◌++◌, length, take, drop, replicate, refl, sym, ap, subst, ◌∙◌, arith, append_assoc, length-append, length-drop}
use Rattle.std.proofs.lemmas.List.{length-take, length-take-le, length-replicate, take_all, drop_all, append-nil}
use Rattle.std.proofs.Math.Seq.{take-append_seam}
use Rattle.std.specs.Int.{w32, to_le_bytes}
use Rattle.outside.specs.ScratchView.{overwritten}
use Rattle.page_pair.specs.Records.{padded, record_of}
use Rattle.page_pair.specs.Records.{Extends}

pub over-end : (b p : List ℕ) (at : ℕ) → length b ≡ at → overwritten b at p ≡ b ++ p
over-end b p at e = rw (take_all at b (omega arith), drop_all (at + length p) b (omega arith)) (append-nil (b ++ p))

pub over-length : (old piece : List ℕ) (at : ℕ) → at + length piece ≤ length old → length (overwritten old at piece) ≡ length old
over-length old piece at le = simp (length-append, length-take, length-drop) (omega arith)

pub extends-over : (old piece : List ℕ) (at : ℕ) → at + length piece ≤ length old → Extends old (overwritten old at piece) at piece
extends-over old piece at le =
    let front : length (take at old) ≡ at = length-take-le at old (omega arith) in
    let both : length (take at old ++ piece) ≡ at + length piece = length-append (take at old) piece ∙ ap (λ n. n + length piece) front in
    record {
      is =
          ap (λ n. take n (overwritten old at piece)) (sym both)
          ∙ take-append_seam (take at old ++ piece) (drop (at + length piece) old);
    }

pub extends-both : (x y z p q : List ℕ) (at : ℕ) → Extends x y at p → Extends y z (at + length p) q → Extends x z at (p ++ q)
extends-both x y z p q at a b =
    let n : at + length (p ++ q) ≡ at + length p + length q = (let l : length (p ++ q) ≡ length p + length q = length-append p q in omega arith) in
    record { is = ap (λ k. take k z) n ∙ b.is ∙ ap (λ l. l ++ q) a.is ∙ append_assoc (take at x) p q }

four : (n : ℕ) → length (to_le_bytes w32 n) ≡ 4
four n = refl

-- zero bytes behind a piece
padded-made : (x z w head : List ℕ) (at width : ℕ) → length head ≤ width → at + width ≤ length z → Extends x z at head → w ≡ overwritten z (at + length head) (replicate (width - length head) 0) → Extends x w at (padded width head)
padded-made x z w head at width le within first e = with_zeros (replicate (width - length head) 0) refl e where
  with_zeros : (zs : List ℕ) → zs ≡ replicate (width - length head) 0 → w ≡ overwritten z (at + length head) zs → Extends x w at (head ++ zs)
  with_zeros zs many is =
      let long : length zs ≡ width - length head = ap length many ∙ length-replicate (width - length head) 0 in
      extends-both x z w head zs at first (subst (λ l. Extends z l (at + length head) zs) (sym is) (extends-over z zs (at + length head) (omega arith)))

-- a record made of its three parts
parts-made : (x y z w number line : List ℕ) (at width : ℕ) → length number ≡ 4 → 4 + length line ≤ width → at + width ≤ length x → y ≡ overwritten x at number → z ≡ overwritten y (at + 4) line → w ≡ overwritten z (at + 4 + length line) (replicate (at + width - (at + 4 + length line)) 0) → Extends x w at (padded width (number ++ line))
parts-made x y z w number line at width four fits within e f g =
    let bytes : length (number ++ line) ≡ 4 + length line = length-append number line ∙ ap (λ n. n + length line) four in
    let long-y : length y ≡ length x = ap length e ∙ over-length x number at (omega arith) in
    let long-z : length z ≡ length x = ap length f ∙ over-length y line (at + 4) (omega arith) ∙ long-y in
    let first : Extends x y at number = subst (λ l. Extends x l at number) (sym e) (extends-over x number at (omega arith)) in
    let f4 : z ≡ overwritten y (at + length number) line = f ∙ ap (λ n. overwritten y (at + n) line) (sym four) in
    let second : Extends y z (at + length number) line = subst (λ l. Extends y l (at + length number) line) (sym f4) (extends-over y line (at + length number) (omega arith)) in
    let place : at + 4 + length line ≡ at + length (number ++ line) = omega arith in
    let count : at + width - (at + 4 + length line) ≡ width - length (number ++ line) = omega arith in
    padded-made x z w (number ++ line) at width (omega arith) (omega arith) (extends-both x y z number line at first second)
    (g ∙ ap (λ n. overwritten z n (replicate (at + width - (at + 4 + length line)) 0)) place ∙ ap (λ n. overwritten z (at + length (number ++ line)) (replicate n 0)) count)

pub record-made : (x y z w line : List ℕ) (at width : ℕ) → 4 + length line ≤ width → at + width ≤ length x → y ≡ overwritten x at (to_le_bytes w32 (length line)) → z ≡ overwritten y (at + 4) line → w ≡ overwritten z (at + 4 + length line) (replicate (at + width - (at + 4 + length line)) 0) → Extends x w at (record_of width line)
unfolding record_of
record-made x y z w line at width fits within e f g = parts-made x y z w (to_le_bytes w32 (length line)) line at width refl fits within e f g

pub padded-length : (size : ℕ) (bytes : List ℕ) → length bytes ≤ size → length (padded size bytes) ≡ size
padded-length size bytes le =
    let zeros : length (replicate (size - length bytes) 0) ≡ size - length bytes = length-replicate (size - length bytes) 0 in
    length-append bytes (replicate (size - length bytes) 0) ∙ ap (λ n. length bytes + n) zeros ∙ omega arith

pub record-length : (width : ℕ) (line : List ℕ) → 4 + length line ≤ width → length (record_of width line) ≡ width
unfolding record_of
record-length width line le = padded-length width (to_le_bytes w32 (length line) ++ line) (headed (to_le_bytes w32 (length line)) refl) where
  headed : (number : List ℕ) → length number ≡ 4 → length (number ++ line) ≤ width
  headed number four = let n : length (number ++ line) ≡ length number + length line = length-append number line in omega arith

-- zero bytes up to the end of a page
pub page-padded : (page : List ℕ) (filled size : ℕ) → length page ≡ size → filled ≤ size → overwritten page filled (replicate (size - filled) 0) ≡ padded size (take filled page)
page-padded page filled size e le = with_zeros (replicate (size - filled) 0) (length-replicate (size - filled) 0) refl where
  front : length (take filled page) ≡ filled
  front = length-take-le filled page (omega arith)

  with_zeros : (zs : List ℕ) → length zs ≡ size - filled → zs ≡ replicate (size - filled) 0 → overwritten page filled zs ≡ padded size (take filled page)
  with_zeros zs many is =
      let none : drop (filled + length zs) page ≡ [] = drop_all (filled + length zs) page (omega arith) in
      ap (λ l. take filled page ++ zs ++ l) none ∙ append-nil (take filled page ++ zs) ∙ ap (λ l. take filled page ++ l) is ∙ ap (λ n. take filled page ++ replicate (size - n) 0) (sym front)
