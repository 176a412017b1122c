-- A file that is copied piece by piece.
use Rattle.std.proofs.Common.{◌≡◌, ◌++◌, ◌+◌, ◌<◌, ◌≤◌, ℕ, List, [], true, false, Some, None, IsSome, Option, unwrap_or, length, take, drop, min, Result, refl, sym, ◌∙◌, ap, ap₂, subst, arith, append-nil, append_assoc, take-add, take-take, ◌-◌, ◌^◌, Fits, w64}
use Rattle.std.proofs.lemmas.List.{length-take, length-take-le, length-drop}
use Rattle.std.proofs.lemmas.Option.{same_Some}
use Rattle.std.specs.Option.{option_map}
use Rattle.std.specs.FinMap.{get, insert}
use Rattle.outside.specs.Files.{Files, is_temp, bytes_at}
use Rattle.outside.specs.TreeView.{TreeView, IsCall}
use Rattle.outside.specs.Calls.{Becomes, IsThere, SealsStay, IsUntouched}
use Rattle.outside.specs.Quiet.{IsQuiet, WorksOn}
use Rattle.outside.proofs.Views.{told_on, told_back, untouched_quiet}
use Rattle.outside.proofs.Quiet.{works_none, works_both}
use Rattle.outside.proofs.Names.{apart}
use Rattle.replace_file.specs.Copies.{Copies, HasCopied}
use Rattle.replace_file.proofs.Work.{worked, stays_both, bytes_put}

-- ---- lists
-- what a read gave is so many bytes from the place on
pub given : (n m : ℕ) (buffer xs : List ℕ) → n ≤ length buffer → take n buffer ≡ take m xs → take n buffer ≡ take n xs
given n m buffer xs le is =
    let count : n ≡ min m (length xs) = sym (length-take-le n buffer le) ∙ ap length is ∙ length-take m xs in
    sym (take-take n n buffer (omega arith)) ∙ ap (λ (l : List ℕ). take n l) is ∙ take-take n m xs (omega (arith, count))

-- a read that gave nothing was at the end
pub ended : (n m at : ℕ) (buffer bytes : List ℕ) → n ≤ length buffer → take n buffer ≡ take m (drop at bytes) → n ≡ 0 → 0 < m → length bytes ≤ at
ended n m at buffer bytes le is none some =
    let count : n ≡ min m (length (drop at bytes)) = sym (length-take-le n buffer le) ∙ ap length is ∙ length-take m (drop at bytes) in
    omega (arith, count, length-drop at bytes, none, some)

pub joined : (xs bytes : List ℕ) (at n : ℕ) → xs ++ take at bytes ++ take n (drop at bytes) ≡ xs ++ take (at + n) bytes
joined xs bytes at n = append_assoc xs (take at bytes) (take n (drop at bytes)) ∙ ap (λ (l : List ℕ). xs ++ l) (sym (take-add at n bytes))

pub reads_seals : (u v : TreeView) (n : List ℕ) → IsUntouched u v → SealsStay u v n
reads_seals u v n same q ne was = same.sealed q ∙ was

-- ---- trees
pub reads_works : {R E : Type 0} (u v : TreeView) (r : Result R E) (n : List ℕ) → is_temp n ≡ true → IsCall u v r → IsUntouched u v → IsQuiet u → WorksOn u v n
reads_works u v r n is call same quiet = worked u v r n is call (λ q. untouched_quiet same q) (reads_seals u v n same)
    (λ f g told now q ne. ap (λ (x : Files). get x q) (same_Some _ _ (sym now ∙ same.told ∙ told))) quiet

-- calls that leave the tree untouched are work on any name
pub untouched_works : {u w : TreeView} (temp : List ℕ) → IsUntouched u w → IsQuiet u → WorksOn u w temp
untouched_works {u = u} {w = w} temp same quiet = record {
  passes = same.passes;
  quiet = untouched_quiet same quiet;
  others = λ f g told now q ne. ap (λ (x : Files). get x q) (same_Some _ _ (sym now ∙ same.told ∙ told));
  seals = λ q ne was. same.sealed q ∙ was;
  since = λ f told c left. (works_none u temp quiet).since f told c ((same.since u.moment c (omega arith)).0 left);
}

pub there_told : (u v : TreeView) (n : List ℕ) → v.told ≡ u.told → IsThere u n → IsThere v n
there_told u v n same there f now = there f (sym same ∙ now)

-- work on the temporary keeps another name
pub there_works : (u v : TreeView) (temp n : List ℕ) → is_temp temp ≡ true → is_temp n ≡ false → WorksOn u v temp → IsThere u n → IsThere v n
there_works u v temp n is lasting works there g now =
    let was = told_back g works.passes now in
    subst (λ (o : Option (List ℕ)). IsSome o) (sym (works.others was.0 g was.1 now n (apart n temp lasting is))) (there was.0 was.1)

pub bytes_works : (u v : TreeView) (temp n : List ℕ) → is_temp temp ≡ true → is_temp n ≡ false → WorksOn u v temp → (f g : Files) → u.told ≡ Some f → v.told ≡ Some g → bytes_at g n ≡ bytes_at f n
bytes_works u v temp n is lasting works f g told now = ap (λ (o : Option (List ℕ)). unwrap_or o []) (works.others f g told now n (apart n temp lasting is))

pub copies_none : (u : TreeView) (temp from : List ℕ) → IsThere u temp → Copies u u temp from 0 0
copies_none u temp from there = record { there = there; bytes = λ f g told now. ap (λ (x : Files). bytes_at x temp) (same_Some _ _ (sym now ∙ told)) ∙ sym (append-nil (bytes_at f temp)) }

pub copies_more : (u v w : TreeView) (temp from : List ℕ) (at n : ℕ) → is_temp temp ≡ true → is_temp from ≡ false → WorksOn u v temp → Copies u v temp from 0 at → Copies v w temp from at n → Copies u w temp from 0 (at + n)
copies_more u v w temp from at n is lasting works a b = record {
  there = b.there;
  bytes = λ f h told now.
      let mid = told_on f works.passes told in
      let same = bytes_works u v temp from is lasting works f mid.0 told mid.1 in
      b.bytes mid.0 h mid.1 now
      ∙ ap₂ (λ (x y : List ℕ). x ++ take n (drop at y)) (a.bytes f mid.0 told mid.1) same
      ∙ joined (bytes_at f temp) (bytes_at f from) at n;
}

-- a piece is read and added
pub copies_piece : (u v w : TreeView) (temp from : List ℕ) (at n : ℕ) (piece : List ℕ) → v.told ≡ u.told → IsThere w temp → ((f : Files) → u.told ≡ Some f → piece ≡ take n (drop at (bytes_at f from)))
    → Becomes v w (λ f. insert f temp (bytes_at f temp ++ piece)) → Copies u w temp from at n
copies_piece u v w temp from at n piece same there gives added = record {
  there = there;
  bytes = λ f h told now. bytes_put v w temp (λ x. bytes_at x temp ++ piece) added f h (same ∙ told) now ∙ ap (λ (l : List ℕ). bytes_at f temp ++ l) (gives f told);
}

-- ---- a piece of what is left
pub within-size : (at count wanted size most : ℕ) (buffer : List ℕ) → count ≤ length (take wanted buffer) → wanted ≡ min (size - at) most → at < size → at + count ≤ size
within-size at count wanted size most buffer le is lt = omega (arith, le, is, lt, length-take wanted buffer)

pub fits-within : (n size : ℕ) → size < 2 ^ 64 → n ≤ size → Fits w64 n
fits-within n size fits le = omega (arith, fits, le)

-- ---- the loop
pub copied_none : (u : TreeView) (temp from : List ℕ) (size : ℕ) → IsQuiet u → IsThere u temp → HasCopied u u temp from 0 size
copied_none u temp from size quiet there = record { works = works_none u temp quiet; seals = λ q ne was. was; copies = copies_none u temp from there; within = omega arith }

pub copied_more : (u v w : TreeView) (temp from : List ℕ) (at n size : ℕ) → is_temp temp ≡ true → is_temp from ≡ false → at + n ≤ size
    → HasCopied u v temp from at size → WorksOn v w temp → SealsStay v w temp → Copies v w temp from at n → HasCopied u w temp from (at + n) size
copied_more u v w temp from at n size is lasting le so_far works seals more = record {
  works = works_both u v w temp is so_far.works works;
  seals = stays_both u v w temp so_far.seals seals;
  copies = copies_more u v w temp from at n is lasting so_far.works so_far.copies more;
  within = le;
}

-- a read gave nothing before the end of a file whose size is known: nothing is told
pub copied_early : (u v w : TreeView) (temp from : List ℕ) (at n size : ℕ) → is_temp temp ≡ true → is_temp from ≡ false → at < size → HasCopied u v temp from at size → IsThere w temp
    → ((f : Files) → u.told ≡ Some f → size ≡ length (bytes_at f from)) → ((f : Files) → v.told ≡ Some f → length (bytes_at f from) ≤ at) → Copies u w temp from 0 size
copied_early u v w temp from at n size is lasting lt so_far there sized ended = record {
  there = there;
  bytes = λ f g told now.
      let mid = told_on f so_far.works.passes told in
      let same = bytes_works u v temp from is lasting so_far.works f mid.0 told mid.1 in
      let no : ⊥ = omega (arith, lt, sized f told, ap length same, ended mid.0 mid.1) in
      absurd no;
}

pub copied_all : (u v : TreeView) (temp from : List ℕ) (at size : ℕ) → size ≤ at → HasCopied u v temp from at size → Copies u v temp from 0 size
copied_all u v temp from at size le so_far = subst (λ n. Copies u v temp from 0 n) (let e : at ≡ size = omega (arith, le, so_far.within) in e) so_far.copies

-- ---- the whole file
pub bytes_copied : (u v w : TreeView) (temp from : List ℕ) → is_temp temp ≡ true → is_temp from ≡ false → WorksOn u v temp → Becomes u v (λ f. insert f temp [])
    → ((f h : Files) → v.told ≡ Some f → w.told ≡ Some h → bytes_at h temp ≡ bytes_at f temp ++ bytes_at f from) → (f h : Files) → u.told ≡ Some f → w.told ≡ Some h → bytes_at h temp ≡ bytes_at f from
bytes_copied u v w temp from is lasting works begun added f h told now =
    let mid = told_on f works.passes told in
    added mid.0 h mid.1 now ∙ ap₂ (λ (x y : List ℕ). x ++ y) (bytes_put u v temp (λ x. []) begun f mid.0 told mid.1) (bytes_works u v temp from is lasting works f mid.0 told mid.1)

pub size_bytes : (f : Files) (n : List ℕ) (size : ℕ) → Some size ≡ option_map length (get f n) → IsSome (get f n) × (size ≡ length (bytes_at f n))
size_bytes f n size = elim (get f n) as (λ o. Some size ≡ option_map length o → IsSome o × (size ≡ length (unwrap_or o []))) [
  | None ↦ λ is. absurd (cc)
  | Some b ↦ λ is. (refl, same_Some _ _ is)
]

pub no_bytes : (f : Files) (n : List ℕ) → None ≡ option_map length (get f n) → bytes_at f n ≡ []
no_bytes f n = elim (get f n) as (λ o. None ≡ option_map length o → unwrap_or o [] ≡ []) [
  | None ↦ λ is. refl
  | Some b ↦ λ is. absurd (cc)
]
