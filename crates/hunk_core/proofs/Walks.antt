-- The body of a hunk, walked line by line as loops do.
use Rattle.std.proofs.Common.{◌≡◌, ℕ, ◌+◌, ◌-◌, ◌<◌, ◌≤◌, ◌^◌, Bool, true, false, eqb, suc, List, [], ◌∷◌, length, get_or, take, take_all, drop, reverse, Fits, w32, Some, None, refl, sym, ap, subst, ◌∙◌, ◌++◌, append_assoc, length-append, length-take, arith}
use Rattle.std.specs.Prelude.{All, vec_len}
use Rattle.std.specs.List.{prefix_len}
use Rattle.std.proofs.lemmas.List.{drop_all, take_more, length-map, length-reverse}
use Rattle.std.proofs.lemmas.List.Sums.{prefix_len-drop_no, prefix_len-drop_yes, count_by_more_yes, count_by_more_no}
use Rattle.hunk_core.specs.declared.HunkLine.{HunkLine}
use Rattle.hunk_core.specs.declared.Hunk.{Hunk}
use Rattle.hunk_core.specs.declared.Side.{Side}
use Rattle.hunk_core.specs.declared.check.BadHunk.TheVariants as bad
use Rattle.hunk_core.specs.LineTests.{ends_line}
use Rattle.hunk_core.specs.PlainHunk.{PlainHunk, marked_of, bytes_at, body_of, hunk_of, lines_on}
use Rattle.hunk_core.specs.Rules.{breaks, first_broken}
use Rattle.hunk_core.specs.Sides.{is_on_side, taken_count}
use Rattle.hunk_core.specs.Turned.{LiesIn}
use Rattle.hunk_core.proofs.SideLemmas.{rest_on, lacks_behind, from-here}

pub below-length : (h : Hunk) (i n : ℕ) → i < n → n ≡ vec_len h.body → i < length h.body.items
below-length h i n lt e = omega (arith, lt, e, h.body.ok.0)

pub past-length : (h : Hunk) (i n : ℕ) → n ≤ i → n ≡ vec_len h.body → length h.body.items ≤ i
past-length h i n le e = omega (arith, le, e, h.body.ok.0)

pub fits-below : (i n most : ℕ) → i < n → n ≡ most → most < 2 ^ 32 → Fits w32 i
fits-below i n most lt e small = omega (arith, lt, e, small)

pub some-left : (n : ℕ) → (n ≡ 0 → ⊥) → 1 ≤ n
some-left n other = omega (arith, other)

-- ---- the line at an index, and those behind it

module _ (text : List ℕ) (side : Side) (ls : List HunkLine) (i : ℕ) (x : HunkLine) (lt : i < length ls) (is : x ≡ get_or ls i x) where
  pub lies-at : All (λ l. LiesIn text l.span) ls → LiesIn text x.span
  lies-at lies = subst (λ y. LiesIn text y.span) (sym is) (lies i x lt)

  pub rest-taken : true ≡ is_on_side side x.mark → rest_on text side ls i ≡ bytes_at text x.span ∷ rest_on text side ls (i + 1)
  rest-taken on = ap (λ l. lines_on side (body_of text l)) (from-here ls i x lt is) ∙ rw (sym on) refl

  pub rest-passed : false ≡ is_on_side side x.mark → rest_on text side ls i ≡ rest_on text side ls (i + 1)
  rest-passed off = ap (λ l. lines_on side (body_of text l)) (from-here ls i x lt is) ∙ rw (sym off) refl

pub rest-none : (text : List ℕ) (side : Side) (ls : List HunkLine) (i : ℕ) → length ls ≤ i → rest_on text side ls i ≡ []
rest-none text side ls i le = ap (λ l. lines_on side (body_of text l)) (drop_all i ls le)

-- ---- a line by its place on a side

module _ (whole line : List ℕ) (ls rest : List (List ℕ)) (left now : ℕ) (same : whole ≡ get_or ls left []) where
  pub first-left : left ≡ 0 → ls ≡ line ∷ rest → line ≡ whole
  first-left none here = sym (same ∙ rw (none, here) refl)

  pub next-taken : left < length ls → (left ≡ 0 → ⊥) → now ≡ left - 1 → ls ≡ line ∷ rest → (now < length rest) × (whole ≡ get_or rest now [])
  next-taken within some less first =
      let k : left ≡ suc now = omega (arith, some, less) in
      let found : whole ≡ get_or (line ∷ rest) (suc now) [] = same ∙ ap (λ n. get_or ls n []) k ∙ ap (λ l. get_or l (suc now) []) first in
      (omega (arith, within, k, ap length first), found)

  pub next-passed : left < length ls → now ≡ left → ls ≡ rest → (now < length rest) × (whole ≡ get_or rest now [])
  next-passed within stays first = (rw (stays, sym first) within, rw (stays, sym first) same)

pub none-left : (ls : List (List ℕ)) (left : ℕ) → left < length ls → ls ≡ [] → ⊥
none-left ls left within none = omega (arith, within, ap length none)

-- ---- a line that lacks its end

module _ (total ended : Bool) (ls : List (List ℕ)) (same : total ≡ lacks_behind ended ls) where
  pub lacks-none : ls ≡ [] → false ≡ total
  lacks-none none = sym (same ∙ rw none refl)

  pub lacks-now : (line : List ℕ) (rest : List (List ℕ)) → ls ≡ line ∷ rest → ended ≡ false → true ≡ total
  lacks-now line rest first lacking = sym (same ∙ rw (first, lacking) refl)

  pub lacks-taken : (line : List ℕ) (rest : List (List ℕ)) (now : Bool) → ls ≡ line ∷ rest → ended ≡ true → now ≡ ends_line line → total ≡ lacks_behind now rest
  lacks-taken line rest now first fed is = same ∙ rw (first, fed, sym is) refl

  pub lacks-passed : (rest : List (List ℕ)) (now : Bool) → ls ≡ rest → now ≡ ended → total ≡ lacks_behind now rest
  lacks-passed rest now first stays = rw (stays, sym first) same

-- ---- lines at the front that pass a test

module _ (p : HunkLine → Bool) (xs given : List HunkLine) (lent : given ≡ xs) (i : ℕ) (so_far : prefix_len p xs ≡ i + prefix_len p (drop i xs)) where
  pub stops-here : (d : HunkLine) → i < length given → false ≡ p (get_or given i d) → i ≡ prefix_len p xs
  stops-here d lt fails =
      let none : prefix_len p (drop i xs) ≡ 0 = prefix_len-drop_no p xs i d (subst (λ l. i < length l) lent lt) (sym (fails ∙ ap (λ l. p (get_or l i d)) lent)) in
      omega (arith, so_far, none)

  pub goes-here : (d : HunkLine) → i < length given → true ≡ p (get_or given i d) → prefix_len p xs ≡ i + 1 + prefix_len p (drop (i + 1) xs)
  goes-here d lt holds =
      let more : prefix_len p (drop i xs) ≡ 1 + prefix_len p (drop (i + 1) xs) = prefix_len-drop_yes p xs i d (subst (λ l. i < length l) lent lt) (sym (holds ∙ ap (λ l. p (get_or l i d)) lent)) in
      omega (arith, so_far, more)

  pub ends-here : (n : ℕ) → length given ≤ i → i ≤ length given → n ≡ length given → n ≡ prefix_len p xs
  ends-here n le ge e =
      let none : prefix_len p (drop i xs) ≡ 0 = ap (prefix_len p) (drop_all i xs (subst (λ l. length l ≤ i) lent le)) in
      omega (arith, so_far, none, le, ge, e)

pub length-of : (h : Hunk) (n : ℕ) → n ≡ vec_len h.body → n ≡ length h.body.items
length-of h n e = omega (arith, e, h.body.ok.0)

pub from-back : (h : Hunk) (i n : ℕ) (x : HunkLine) → n ≡ vec_len h.body → x ≡ get_or h.body.items (n - 1 - i) x → x ≡ get_or h.body.items (length h.body.items - 1 - i) x
from-back h i n x e is = is ∙ ap (λ k. get_or h.body.items (k - 1 - i) x) (length-of h n e)

pub ends-back : (p : HunkLine → Bool) (h : Hunk) (i n : ℕ) → prefix_len p (reverse h.body.items) ≡ i + prefix_len p (drop i (reverse h.body.items)) → n ≤ i → i ≤ n → n ≡ vec_len h.body → n ≡ prefix_len p (reverse h.body.items)
ends-back p h i n so_far le ge e =
    let long : length (reverse h.body.items) ≡ n = length-reverse h.body.items ∙ sym (length-of h n e) in
    ends-here p (reverse h.body.items) (reverse h.body.items) refl i so_far n (omega (arith, long, le)) (omega (arith, long, ge)) (sym long)

-- ---- pieces that are gathered

pub gathered-more : (first piece all more : List ℕ) (i : ℕ) → i < length piece → all ≡ first ++ take i piece → more ≡ all ++ get_or piece i 0 ∷ [] → more ≡ first ++ take (i + 1) piece
gathered-more first piece all more i lt so_far pushed =
    pushed ∙ ap (λ l. l ++ get_or piece i 0 ∷ []) so_far ∙ append_assoc first (take i piece) (get_or piece i 0 ∷ []) ∙ ap (λ l. first ++ l) (sym (take_more piece i 0 lt))

pub gathered-all : (first piece all : List ℕ) (i : ℕ) → length piece ≤ i → all ≡ first ++ take i piece → all ≡ first ++ piece
gathered-all first piece all i le so_far = so_far ∙ ap (λ l. first ++ l) (take_all i piece le)

pub room-left : (first piece all : List ℕ) (i most : ℕ) → i < length piece → all ≡ first ++ take i piece → length first + length piece ≤ most → length all < most
room-left first piece all i most lt so_far room =
    let long : length all ≡ length first + length (take i piece) = ap length so_far ∙ length-append first (take i piece) in
    omega (arith, long, length-take i piece, lt, room)

-- ---- lines on a side, counted

module _ (side : Side) (xs given : List HunkLine) (lent : given ≡ xs) (i count now : ℕ) (so_far : count ≡ taken_count side (take i xs)) (few : count ≤ i) (d : HunkLine) (lt : i < length given) where
  pub counts-one : now ≡ count + 1 → true ≡ is_on_side side (get_or given i d).mark → (now ≡ taken_count side (take (i + 1) xs)) × (now ≤ i + 1)
  counts-one is on =
      let more : taken_count side (take (i + 1) xs) ≡ taken_count side (take i xs) + 1 =
      count_by_more_yes (λ l. is_on_side side l.mark) xs i d (subst (λ l. i < length l) lent lt) (sym (on ∙ ap (λ l. is_on_side side (get_or l i d).mark) lent)) in
      (omega (arith, is, so_far, more), omega (arith, is, few))

  pub counts-none : now ≡ count → false ≡ is_on_side side (get_or given i d).mark → (now ≡ taken_count side (take (i + 1) xs)) × (now ≤ i + 1)
  counts-none is off =
      let more : taken_count side (take (i + 1) xs) ≡ taken_count side (take i xs) =
      count_by_more_no (λ l. is_on_side side l.mark) xs i d (subst (λ l. i < length l) lent lt) (sym (off ∙ ap (λ l. is_on_side side (get_or l i d).mark) lent)) in
      (omega (arith, is, so_far, more), omega (arith, is, few))

pub counted-all : (side : Side) (xs given : List HunkLine) (i count : ℕ) → given ≡ xs → count ≡ taken_count side (take i xs) → length given ≤ i → count ≡ taken_count side xs
counted-all side xs given i count lent so_far le = so_far ∙ ap (taken_count side) (take_all i xs (subst (λ l. length l ≤ i) lent le))

-- ---- the rules in their order

pub empty-body : (text : List ℕ) (h : Hunk) (found : Bool) → found ≡ eqb (vec_len h.body) 0 → found ≡ breaks (hunk_of text h) bad.NoLines
empty-body text h found e =
    let long : vec_len h.body ≡ length (body_of text h.body.items) = omega (arith, h.body.ok.0, length-map h.body.items (marked_of text)) in
    e ∙ ap (λ n. eqb n 0) long

module _ (h : PlainHunk) where
  pub broken-lines : true ≡ breaks h bad.NoLines → Some bad.NoLines ≡ first_broken h
  broken-lines a = rw (sym a) refl

  module _ (a : false ≡ breaks h bad.NoLines) where
    pub broken-start : true ≡ breaks h bad.Start → Some bad.Start ≡ first_broken h
    broken-start b = rw (sym a, sym b) refl

    module _ (b : false ≡ breaks h bad.Start) where
      pub broken-sum : true ≡ breaks h bad.Sum → Some bad.Sum ≡ first_broken h
      broken-sum d = rw (sym a, sym b, sym d) refl

      module _ (d : false ≡ breaks h bad.Sum) where
        pub broken-end : true ≡ breaks h bad.InnerEnd → Some bad.InnerEnd ≡ first_broken h
        broken-end e = rw (sym a, sym b, sym d, sym e) refl

        pub broken-none : false ≡ breaks h bad.InnerEnd → None ≡ first_broken h
        broken-none e = rw (sym a, sym b, sym d, sym e) refl
