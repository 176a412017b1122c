-- Two file patches in one part have two names.
use Rattle.std.proofs.Common.{◌≡◌, ◌≢◌, ℕ, zero, suc, ◌<◌, ◌≤◌, Bool, true, false, ◌||◌, List, [], ◌∷◌, length, map, Some, inl, inr, refl, sym, ap, subst, ◌∙◌, arith, bytes_eq}
use Rattle.std.specs.Prelude.{slice_get}
use Rattle.std.proofs.lemmas.Option.{same_Some}
use Rattle.std.proofs.lemmas.Bool.{or_parts}
use Rattle.line_list.specs.declared.Span.{Span}
use Rattle.hunk_core.specs.Pieces.{AreInTurn}
use Rattle.read_file_patch.specs.declared.FilePatch.{FilePatch}
use Rattle.read_file_patch.specs.Numbered.{is_among}
use Rattle.read_file_patch.proofs.Names.{same-is}
use Rattle.patch_set.specs.Spans.{ArePlaced}
use Rattle.split_recount.specs.Parts.{cuts, cuts_behind, between, row_of}
use Rattle.split_recount.specs.PartLaws.{HaveOwnNames}
use Rattle.split_recount.proofs.Cutting.{cut-there, cut-later, row-at, parts-are}
use Rattle.split_recount.proofs.PartsInTurn.{Rows, Ascend, in-turn, ascend, empty-or, no-part, spans}

differ : (name other : List ℕ) (names : List (List ℕ)) → is_among (name ∷ names) other ≡ false → name ≢ other
differ name other names e = λ same.
    let x : bytes_eq other name ≡ true = subst (λ n. bytes_eq other n ≡ true) (sym same) (same-is other) in
    let y = sym x ∙ (or_parts (bytes_eq other name) (is_among names other) e).0 in cc

at-least : (low : ℕ) (row : ℕ × List ℕ) (rows : Rows) (end i : ℕ) (r : ℕ × List ℕ) → Ascend low (row ∷ rows) end → slice_get (row ∷ rows) i ≡ Some r → row.0 ≤ r.0
at-least low row rows end zero r up is = let e = ap (λ x. x.0) (same_Some row r is) in omega (arith, e)
at-least low row [] end (suc i) r up is = absurd cc
at-least low row (next ∷ rows) end (suc i) r up is = omega (arith, up.1.0, at-least row.0 next rows end i r up.1 is)

-- ---- spans in turn

past : (at : ℕ) (ss : List Span) (end k : ℕ) (s : Span) → AreInTurn at ss end → slice_get ss k ≡ Some s → at ≤ s.start
past at [] end k s turn is = absurd cc
past at (t ∷ ss) end zero s turn is = let e = ap (λ x. x.start) (same_Some t s is) in omega (arith, e, turn.0)
past at (t ∷ ss) end (suc k) s turn is = omega (arith, turn.1, past t.end ss end k s turn.2 is)

-- all but the first begin behind a place from which the spans are in turn too
behind : (low at : ℕ) (cs : List ℕ) (end k : ℕ) (s : Span) → AreInTurn at (between at cs end) end → slice_get (between low cs end) (suc k) ≡ Some s → at < s.start
behind low at [] end k s turn is = absurd cc
behind low at (c ∷ cs) end k s turn is = omega (arith, turn.1, past c (between c cs end) end k s turn.2 is)

-- a span that ends behind the end of the first is one of the others
after-first : (first : Span) (rest : List Span) (k : ℕ) (s : Span) (n : ℕ) → slice_get (first ∷ rest) k ≡ Some s → first.end ≤ n → n < s.end → (m : ℕ) × (slice_get rest m ≡ Some s)
after-first first rest zero s n is le lt = let e = ap (λ x. x.end) (same_Some first s is) in absurd (omega (arith, e, le, lt))
after-first first rest (suc k) s n is le lt = (k, is)

-- ---- the names in a part

module _ (every : Bool) (end : ℕ) where
  -- parts don't begin at each file patch, and the name of this one isn't among those
  abbrev IsNew : List (List ℕ) → ℕ × List ℕ → Type 0
  IsNew names r = (every ≡ false) × (is_among names r.1 ≡ false)

  -- a file patch in the first span has none of the names in front of it
  fresh : (names : List (List ℕ)) (low at : ℕ) (rows : Rows) (i : ℕ) (r : ℕ × List ℕ) (s : Span) → Ascend at rows end → slice_get (spans every end names low rows) 0 ≡ Some s
      → slice_get rows i ≡ Some r → r.0 < s.end → IsNew names r
  fresh names low at [] i r s up is there lt = absurd cc
  fresh names low at (row ∷ rows) i r s up is there lt = by (every || is_among names row.1) refl (λ j at-first. fresh (row.1 ∷ names) low row.0 rows j r s up.1 at-first)
    where
      here : (n : ℕ) → (every || is_among names row.1) ≡ false → slice_get (row ∷ rows) n ≡ Some r → ((j : ℕ) → slice_get rows j ≡ Some r → IsNew (row.1 ∷ names) r) → IsNew names r
      here zero e at-n more = subst (IsNew names) (same_Some row r at-n) (or_parts every (is_among names row.1) e)
      here (suc j) e at-n more = ((more j at-n).0, (or_parts (bytes_eq r.1 row.1) (is_among names r.1) (more j at-n).1).1)

      by : (b : Bool) → (every || is_among names row.1) ≡ b
          → ((j : ℕ) → slice_get (spans every end (row.1 ∷ names) low rows) 0 ≡ Some s → slice_get rows j ≡ Some r → r.0 < s.end → IsNew (row.1 ∷ names) r) → IsNew names r
      by true e more =
          let first : record { start = low; end = row.0 } ≡ s = same_Some (record { start = low; end = row.0 }) s (sym (ap (λ l. slice_get (between low l end) 0) (cut-there every names row rows e)) ∙ is) in
          let ends = ap (λ (x : Span). x.end) first in
          absurd (omega (arith, ends, lt, at-least at row rows end i r up there))
      by false e more = here i e there (λ j there-too. more j (sym (ap (λ l. slice_get (between low l end) 0) (cut-later every names row rows e)) ∙ is) there-too lt)

  -- the same of a file patch in a span that begins no later than a place in front of all
  alone : (names : List (List ℕ)) (low at : ℕ) (rows : Rows) (k : ℕ) (s : Span) (j : ℕ) (q : ℕ × List ℕ) → Ascend at rows end → slice_get (spans every end names low rows) k ≡ Some s
      → s.start ≤ at → slice_get rows j ≡ Some q → q.0 < s.end → IsNew names q
  alone names low at rows zero s j q up is le there lt = fresh names low at rows j q s up is there lt
  alone names low at rows (suc k) s j q up is le there lt = absurd (omega (arith, le, behind low at (cuts every names rows) end k s (in-turn every end names at rows up) is))

  -- two names that are told apart
  abbrev Apart : ℕ × List ℕ → ℕ × List ℕ → Type 0
  Apart r q = (every ≡ false) × (r.1 ≢ q.1)

  from-new : (row : ℕ × List ℕ) (names : List (List ℕ)) (r q : ℕ × List ℕ) → row ≡ r → IsNew (row.1 ∷ names) q → Apart r q
  from-new row names r q same new = (new.0, subst (λ x. x.1 ≢ q.1) same (differ row.1 q.1 names new.1))

  apart : (names : List (List ℕ)) (low at : ℕ) (rows : Rows) (k : ℕ) (s : Span) (i j : ℕ) (r q : ℕ × List ℕ) → Ascend at rows end → slice_get (spans every end names low rows) k ≡ Some s
      → i < j → slice_get rows i ≡ Some r → slice_get rows j ≡ Some q → s.start ≤ r.0 → q.0 < s.end → Apart r q
  apart names low at [] k s i j r q up is lt one other le below = absurd cc
  apart names low at (row ∷ rows) k s i zero r q up is lt one other le below = absurd (omega (arith, lt))
  apart names low at (row ∷ rows) k s zero (suc j) r q up is lt one other le below = by (every || is_among names row.1) refl
    where
      same : row ≡ r
      same = same_Some row r one

      begins : s.start ≤ row.0
      begins = let e = ap (λ x. x.0) same in omega (arith, e, le)

      by : (b : Bool) → (every || is_among names row.1) ≡ b → Apart r q
      by true e =
          let m = after-first _ (spans every end (row.1 ∷ []) row.0 rows) k s q.0 (sym (ap (λ l. slice_get (between low l end) k) (cut-there every names row rows e)) ∙ is) (at-least at row rows end (suc j) q up other) below in
          from-new row [] r q same (alone (row.1 ∷ []) row.0 row.0 rows m.0 s j q up.1 m.1 begins other below)
      by false e =
          from-new row names r q same (alone (row.1 ∷ names) low row.0 rows k s j q up.1 (sym (ap (λ l. slice_get (between low l end) k) (cut-later every names row rows e)) ∙ is) begins other below)
  apart names low at (row ∷ rows) k s (suc i) (suc j) r q up is lt one other le below =
      by (every || is_among names row.1) refl
      (λ m at-m. apart (row.1 ∷ []) row.0 row.0 rows m s i j r q up.1 at-m (omega (arith, lt)) one other le below)
      (λ at-k. apart (row.1 ∷ names) low row.0 rows k s i j r q up.1 at-k (omega (arith, lt)) one other le below)
    where
      by : (b : Bool) → (every || is_among names row.1) ≡ b → ((m : ℕ) → slice_get (spans every end (row.1 ∷ []) row.0 rows) m ≡ Some s → Apart r q)
          → (slice_get (spans every end (row.1 ∷ names) low rows) k ≡ Some s → Apart r q) → Apart r q
      by true e there later =
          let m = after-first _ (spans every end (row.1 ∷ []) row.0 rows) k s q.0 (sym (ap (λ l. slice_get (between low l end) k) (cut-there every names row rows e)) ∙ is) (at-least at row rows end (suc j) q up other) below in
          there m.0 m.1
      by false e there later = later (sym (ap (λ l. slice_get (between low l end) k) (cut-later every names row rows e)) ∙ is)

  all-apart : (text : List ℕ) (ps : List FilePatch) (k : ℕ) (s : Span) (i j : ℕ) (r q : ℕ × List ℕ) → end ≡ length text → ArePlaced text 0 0 ps
      → slice_get (between 0 (cuts_behind every (map (row_of text) ps)) end) k ≡ Some s
      → i < j → slice_get (map (row_of text) ps) i ≡ Some r → slice_get (map (row_of text) ps) j ≡ Some q → s.start ≤ r.0 → q.0 < s.end → Apart r q
  all-apart text [] k s i j r q whole at is lt one other le below = absurd cc
  all-apart text (p ∷ ps) k s i zero r q whole at is lt one other le below = absurd (omega (arith, lt))
  all-apart text (p ∷ ps) k s zero (suc j) r q whole at is lt one other le below =
      let row = row_of text p in
      let same : row ≡ r = same_Some row r one in
      let up : Ascend row.0 (map (row_of text) ps) end = subst (Ascend row.0 (map (row_of text) ps)) (sym whole) (ascend text p 0 0 ps at.0 at.1) in
      let e = ap (λ x. x.0) same in
      from-new row [] r q same (alone (row.1 ∷ []) 0 row.0 (map (row_of text) ps) k s j q up is (omega (arith, e, le)) other below)
  all-apart text (p ∷ ps) k s (suc i) (suc j) r q whole at is lt one other le below =
      let row = row_of text p in
      let up : Ascend row.0 (map (row_of text) ps) end = subst (Ascend row.0 (map (row_of text) ps)) (sym whole) (ascend text p 0 0 ps at.0 at.1) in
      apart (row.1 ∷ []) 0 row.0 (map (row_of text) ps) k s i j r q up is (omega (arith, lt)) one other le below

pub have-own-names : HaveOwnNames
have-own-names every v k s i j p q whole is lt one other first second = elim (empty-or v.text) [
  | inl none ↦ absurd (no-part every v k s none is)
  | inr some ↦ all-apart every (length v.text) v.text v.patches k s i j (row_of v.text p) (row_of v.text q) refl whole.placed
      (sym (ap (λ ss. slice_get ss k) (parts-are every v some)) ∙ is) lt (row-at v i p one) (row-at v j q other) first.0 second.1
]
