-- Parts begin only where a name comes again, or at each file patch.
use Rattle.std.proofs.Common.{◌≡◌, ℕ, zero, suc, ◌<◌, ◌≤◌, Bool, true, false, List, [], ◌∷◌, length, map, Some, inl, inr, refl, sym, ap, ◌∙◌, arith, bytes_eq}
use Rattle.std.specs.Prelude.{slice_get}
use Rattle.std.proofs.lemmas.List.{length-map}
use Rattle.std.proofs.lemmas.Option.{same_Some}
use Rattle.std.proofs.lemmas.Bool.{or_cases}
use Rattle.line_list.specs.declared.Span.{Span}
use Rattle.read_file_patch.specs.declared.FilePatch.{FilePatch}
use Rattle.read_file_patch.specs.Numbered.{is_among}
use Rattle.read_file_patch.proofs.Names.{are-same}
use Rattle.patch_set.specs.PlainName.{plain_name}
use Rattle.read_file_patch.specs.PlainPatch.{header_of}
use Rattle.patch_set.specs.SetView.{SetView, IsWhole, patch_at}
use Rattle.patch_set.specs.Spans.{ArePlaced}
use Rattle.split_recount.specs.Parts.{cuts, cuts_behind, between, row_of}
use Rattle.split_recount.specs.PartLaws.{BeginsIn, BeginAtNamesAgain, AreAsMany}
use Rattle.split_recount.proofs.Cutting.{cut-there, cut-later, none-cut, parts-are}
use Rattle.split_recount.proofs.PartsInTurn.{Rows, Ascend, ascend, empty-or, no-part, spans, begins-low, begins-patch}

-- ---- as many as file patches

count-between : (low : ℕ) (cs : List ℕ) (end : ℕ) → length (between low cs end) ≡ suc (length cs)
count-between low [] end = refl
count-between low (c ∷ cs) end = ap suc (count-between c cs end)

count-cuts : (names : List (List ℕ)) (rows : Rows) → length (cuts true names rows) ≡ length rows
count-cuts names [] = ap length (none-cut true names)
count-cuts names (row ∷ rows) = ap length (cut-there true names row rows refl) ∙ ap suc (count-cuts (row.1 ∷ []) rows)

count-all : (text : List ℕ) (end : ℕ) (ps : List FilePatch) → 0 < length ps → length (between 0 (cuts_behind true (map (row_of text) ps)) end) ≡ length ps
count-all text end [] some = absurd (omega (arith, some))
count-all text end (p ∷ ps) some =
    count-between 0 (cuts true ((row_of text p).1 ∷ []) (map (row_of text) ps)) end
    ∙ ap suc (count-cuts ((row_of text p).1 ∷ []) (map (row_of text) ps) ∙ length-map ps (row_of text))

-- a set with a file patch has a text
some-text : (v : SetView) → IsWhole v → 0 < length v.patches → 0 < length v.text
some-text v whole some = by v.patches whole.placed some
  where
    by : (ps : List FilePatch) → ArePlaced v.text 0 0 ps → 0 < length ps → 0 < length v.text
    by [] at lt = absurd (omega (arith, lt))
    by (p ∷ ps) at lt = omega (arith, at.0.some, at.0.high)

pub are-as-many : AreAsMany
are-as-many v whole some = ap length (parts-are true v (some-text v whole some)) ∙ count-all v.text (length v.text) v.patches some

-- ---- at names that come again

module _ (Seen : ℕ × List ℕ → Type 0) (end : ℕ) where
  -- the name of one that was seen, and begins between two places
  abbrev Named : ℕ → ℕ → List ℕ → Type 0
  Named low at name = (r : ℕ × List ℕ) × Seen r × (low ≤ r.0) × (r.0 ≤ at) × (r.1 ≡ name)

  -- each of these is that
  abbrev AreNamed : ℕ → ℕ → List (List ℕ) → Type 0
  AreNamed low at names = (name : List ℕ) → is_among names name ≡ true → Named low at name

  -- one in a span has the name of the one at which the next begins
  abbrev Again : Span → Span → Type 0
  Again s t = (r : ℕ × List ℕ) × (q : ℕ × List ℕ) × Seen r × Seen q × (s.start ≤ r.0) × (r.0 < s.end) × (t.start ≡ q.0) × (r.1 ≡ q.1)

  here-named : (row : ℕ × List ℕ) (low : ℕ) (name : List ℕ) → Seen row → low ≤ row.0 → bytes_eq name row.1 ≡ true → Named low row.0 name
  here-named row low name seen le e = (row, seen, le, omega arith, sym (are-same name row.1 e))

  first-named : (row : ℕ × List ℕ) → Seen row → AreNamed row.0 row.0 (row.1 ∷ [])
  first-named row seen name e = elim (or_cases (bytes_eq name row.1) false e) [
    | inl same ↦ here-named row row.0 name seen (omega arith) same
    | inr none ↦ absurd cc
  ]

  more-named : (names : List (List ℕ)) (low at : ℕ) (row : ℕ × List ℕ) → Seen row → low ≤ at → at < row.0 → AreNamed low at names → AreNamed low row.0 (row.1 ∷ names)
  more-named names low at row seen le lt named name e = elim (or_cases (bytes_eq name row.1) (is_among names name) e) [
    | inl same ↦ here-named row low name seen (omega (arith, le, lt)) same
    | inr among ↦ let r = named name among in (r.0, r.1, r.2, omega (arith, r.3, lt), r.4)
  ]

  abbrev AreSeen : Rows → Type 0
  AreSeen rows = (i : ℕ) (r : ℕ × List ℕ) → slice_get rows i ≡ Some r → Seen r

  again : (names : List (List ℕ)) (low at : ℕ) (rows : Rows) (k : ℕ) (s t : Span) → low ≤ at → Ascend at rows end → AreNamed low at names → AreSeen rows
      → slice_get (spans false end names low rows) k ≡ Some s → slice_get (spans false end names low rows) (suc k) ≡ Some t → Again s t
  again names low at [] k s t le up named seen is next = absurd (let x = sym (ap (λ l. slice_get (between low l end) (suc k)) (none-cut false names)) ∙ next in cc)
  again names low at (row ∷ rows) k s t le up named seen is next =
      by (is_among names row.1) refl
      (λ m. again (row.1 ∷ []) row.0 row.0 rows m s t (omega arith) up.1 (first-named row (seen 0 row refl)) (λ i. seen (suc i)))
      (again (row.1 ∷ names) low row.0 rows k s t (omega (arith, le, up.0)) up.1 (more-named names low at row (seen 0 row refl) le up.0 named) (λ i. seen (suc i)))
    where
      there : (n : ℕ) → is_among names row.1 ≡ true
          → slice_get (record { start = low; end = row.0 } ∷ spans false end (row.1 ∷ []) row.0 rows) n ≡ Some s → slice_get (spans false end (row.1 ∷ []) row.0 rows) n ≡ Some t
          → ((m : ℕ) → slice_get (spans false end (row.1 ∷ []) row.0 rows) m ≡ Some s → slice_get (spans false end (row.1 ∷ []) row.0 rows) (suc m) ≡ Some t → Again s t) → Again s t
      there zero e at-n at-next more =
          let r = named row.1 e in
          let first : record { start = low; end = row.0 } ≡ s = same_Some (record { start = low; end = row.0 }) s at-n in
          let from = ap (λ (x : Span). x.start) first in
          let to = ap (λ (x : Span). x.end) first in
          (r.0, row, r.1, seen 0 row refl, omega (arith, from, r.2), omega (arith, to, r.3, up.0), begins-low row.0 end (cuts false (row.1 ∷ []) rows) t at-next, r.4)
      there (suc m) e at-n at-next more = more m at-n at-next

      by : (b : Bool) → is_among names row.1 ≡ b
          → ((m : ℕ) → slice_get (spans false end (row.1 ∷ []) row.0 rows) m ≡ Some s → slice_get (spans false end (row.1 ∷ []) row.0 rows) (suc m) ≡ Some t → Again s t)
          → (slice_get (spans false end (row.1 ∷ names) low rows) k ≡ Some s → slice_get (spans false end (row.1 ∷ names) low rows) (suc k) ≡ Some t → Again s t) → Again s t
      by true e more later =
          let cut = cut-there false names row rows e in
          there k e (sym (ap (λ l. slice_get (between low l end) k) cut) ∙ is) (sym (ap (λ l. slice_get (between low l end) (suc k)) cut) ∙ next) more
      by false e more later =
          let cut = cut-later false names row rows e in
          later (sym (ap (λ l. slice_get (between low l end) k) cut) ∙ is) (sym (ap (λ l. slice_get (between low l end) (suc k)) cut) ∙ next)

-- a file patch of a list
abbrev IsOf : List ℕ → List FilePatch → ℕ × List ℕ → Type 0
IsOf text ps r = (i : ℕ) × (p : FilePatch) × (slice_get ps i ≡ Some p) × (r ≡ row_of text p)

of-list : (text : List ℕ) (ps : List FilePatch) (i : ℕ) (r : ℕ × List ℕ) → slice_get (map (row_of text) ps) i ≡ Some r → IsOf text ps r
of-list text ps i r is = let p = begins-patch text ps i r is in (i, p.0, p.1, p.2)

all-again : (text : List ℕ) (ps : List FilePatch) (k : ℕ) (s t : Span) → ArePlaced text 0 0 ps
    → slice_get (between 0 (cuts_behind false (map (row_of text) ps)) (length text)) k ≡ Some s
    → slice_get (between 0 (cuts_behind false (map (row_of text) ps)) (length text)) (suc k) ≡ Some t → Again (IsOf text ps) (length text) s t
all-again text [] k s t at is next = absurd cc
all-again text (p ∷ ps) k s t at is next =
    let row = row_of text p in
    again (IsOf text (p ∷ ps)) (length text) (row.1 ∷ []) 0 row.0 (map (row_of text) ps) k s t (omega arith) (ascend text p 0 0 ps at.0 at.1)
    (λ name e. let r = first-named (IsOf text (p ∷ ps)) (length text) row (0, p, refl, refl) name e in (r.0, r.1, omega arith, r.3, r.4))
    (λ i r there. of-list text (p ∷ ps) (suc i) r there) is next

pub begin-at-names-again : BeginAtNamesAgain
begin-at-names-again v k s t whole is next = elim (empty-or v.text) [
  | inl none ↦ absurd (no-part false v k s none is)
  | inr some ↦ of-rows (all-again v.text v.patches k s t whole.placed
      (sym (ap (λ ss. slice_get ss k) (parts-are false v some)) ∙ is) (sym (ap (λ ss. slice_get ss (suc k)) (parts-are false v some)) ∙ next))
]
  where
    of-rows : Again (IsOf v.text v.patches) (length v.text) s t → (first : ℕ) × (second : ℕ) × (p : FilePatch) × (q : FilePatch) × (patch_at v first ≡ Some p) × (patch_at v second ≡ Some q) × BeginsIn s p
        × (t.start ≡ q.span.start) × (plain_name (header_of v.text p.header) ≡ plain_name (header_of v.text q.header))
    of-rows a =
        let p = a.2 in
        let q = a.3 in (
          p.0,
          q.0,
          p.1,
          q.1,
          p.2,
          q.2,
          (omega (arith, a.4, ap (λ r. r.0) p.3), omega (arith, a.5, ap (λ r. r.0) p.3)),
          a.6 ∙ ap (λ r. r.0) q.3,
          sym (ap (λ r. r.1) p.3) ∙ a.7 ∙ ap (λ r. r.1) q.3,
        )
