-- The parts of a text, one behind the other, and the names in each.
use Rattle.std.proofs.Common.{◌≡◌, ℕ, zero, suc, ◌+◌, ◌-◌, ◌<◌, ◌≤◌, ◌⊎◌, inl, inr, Bool, true, false, ◌||◌, List, [], ◌∷◌, ◌++◌, length, map, take, drop, slice_range, None, Some, refl, sym, ap, subst, ◌∙◌, arith}
use Rattle.std.specs.Prelude.{slice_get}
use Rattle.std.specs.List.{flat_map}
use Rattle.std.proofs.lemmas.List.{take_all}
use Rattle.std.proofs.lemmas.List.Concat.{flat_map-cons}
use Rattle.std.proofs.lemmas.Option.{same_Some}
use Rattle.line_list.specs.declared.Span.{Span}
use Rattle.hunk_core.specs.PlainHunk.{bytes_at}
use Rattle.hunk_core.specs.Pieces.{AreInTurn}
use Rattle.read_file_patch.specs.declared.FilePatch.{FilePatch}
use Rattle.read_file_patch.specs.PlainPatch.{row_count}
use Rattle.read_file_patch.specs.Numbered.{is_among}
use Rattle.patch_set.specs.SetView.{SetView, IsWhole, patch_at}
use Rattle.patch_set.specs.Spans.{IsPlaced, ArePlaced}
use Rattle.split_recount.specs.Parts.{cuts, cuts_behind, between, parts, row_of, rows_of}
use Rattle.split_recount.specs.PartLaws.{JoinBack, BeginAtPatches}
use Rattle.split_recount.proofs.Measuring.{range_split}
use Rattle.split_recount.proofs.Cutting.{cut-there, cut-later, none-cut, parts-are}

abbrev pub Rows : Type 0
Rows = List (ℕ × List ℕ)

-- file patches begin one behind the other, between a place and an end
abbrev pub Ascend : ℕ → Rows → ℕ → Type 0
Ascend low [] end = low < end
Ascend low (row ∷ rows) end = (low < row.0) × Ascend row.0 rows end

lower : (low at : ℕ) (rows : Rows) (end : ℕ) → low < at → Ascend at rows end → Ascend low rows end
lower low at [] end lt up = omega (arith, lt, up)
lower low at (row ∷ rows) end lt up = (omega (arith, lt, up.0), up.1)

-- ---- they follow each other

module _ (every : Bool) (end : ℕ) where
  pub in-turn : (names : List (List ℕ)) (low : ℕ) (rows : Rows) → Ascend low rows end → AreInTurn low (between low (cuts every names rows) end) end
  in-turn names low [] up = subst (λ l. AreInTurn low (between low l end) end) (sym (none-cut every names)) (refl, up, refl)
  in-turn names low (row ∷ rows) up = by (every || is_among names row.1) refl (in-turn (row.1 ∷ []) row.0 rows up.1) (in-turn (row.1 ∷ names) low rows (lower low row.0 rows end up.0 up.1))
    where
      by : (b : Bool) → (every || is_among names row.1) ≡ b → AreInTurn row.0 (between row.0 (cuts every (row.1 ∷ []) rows) end) end
          → AreInTurn low (between low (cuts every (row.1 ∷ names) rows) end) end → AreInTurn low (between low (cuts every names (row ∷ rows)) end) end
      by true e there later = subst (λ l. AreInTurn low (between low l end) end) (sym (cut-there every names row rows e)) (refl, up.0, there)
      by false e there later = subst (λ l. AreInTurn low (between low l end) end) (sym (cut-later every names row rows e)) later

-- ---- file patches that lie one behind the other

module _ (text : List ℕ) where
  pub ascend : (p : FilePatch) (start before : ℕ) (ps : List FilePatch) → IsPlaced text start before p → ArePlaced text p.span.end (before + row_count p.change) ps
      → Ascend p.span.start (map (row_of text) ps) (length text)
  ascend p start before [] at behind = omega (arith, at.begins, at.region, at.some, at.high)
  ascend p start before (q ∷ ps) at behind =
      (omega (arith, at.begins, at.region, at.some, behind.0.begins), ascend q p.span.end (before + row_count p.change) ps behind.0 behind.1)

  in-turn-all : (every : Bool) (ps : List FilePatch) → 0 < length text → ArePlaced text 0 0 ps → AreInTurn 0 (between 0 (cuts_behind every (map (row_of text) ps)) (length text)) (length text)
  in-turn-all every [] some at = (refl, some, refl)
  in-turn-all every (p ∷ ps) some at =
      subst (λ n. AreInTurn n (between n (cuts every ((row_of text p).1 ∷ []) (map (row_of text) ps)) (length text)) (length text)) at.0.begins
      (in-turn every (length text) ((row_of text p).1 ∷ []) p.span.start (map (row_of text) ps) (ascend p 0 0 ps at.0 at.1))

  turn-end : (at : ℕ) (ss : List Span) (end : ℕ) → AreInTurn at ss end → at ≤ end
  turn-end at [] end turn = omega (arith, turn)
  turn-end at (s ∷ ss) end turn = omega (arith, turn.1, turn-end s.end ss end turn.2)

  joined-spans : (at : ℕ) (ss : List Span) (end : ℕ) → AreInTurn at ss end → flat_map (bytes_at text) ss ≡ slice_range text at end
  joined-spans at [] end turn = let none : end - at ≡ 0 = omega (arith, turn) in ap (λ k. take k (drop at text)) (sym none)
  joined-spans at (s ∷ ss) end turn =
      flat_map-cons (bytes_at text) s ss
      ∙ ap (λ t. bytes_at text s ++ t) (joined-spans s.end ss end turn.2)
      ∙ ap (λ a. slice_range text a s.end ++ slice_range text s.end end) turn.0
      ∙ sym (range_split text at s.end end (omega (arith, turn.1)) (turn-end s.end ss end turn.2))

pub empty-or : (text : List ℕ) → (text ≡ []) ⊎ (0 < length text)
empty-or [] = inl refl
empty-or (b ∷ bs) = inr (omega arith)

parts-turn : (every : Bool) (v : SetView) → IsWhole v → AreInTurn 0 (parts every v) (length v.text)
parts-turn every v whole = elim (empty-or v.text) [
  | inl none ↦ let e : length v.text ≡ 0 = ap length none in rw e refl
  | inr some ↦ subst (λ ss. AreInTurn 0 ss (length v.text)) (sym (parts-are every v some)) (in-turn-all v.text every v.patches some whole.placed)
]

pub join-back : JoinBack
join-back every v whole =
    let turn = parts-turn every v whole in
    let n : length v.text - 0 ≡ length v.text = omega arith in
    (turn, joined-spans v.text 0 (parts every v) (length v.text) turn ∙ ap (λ k. take k v.text) n ∙ take_all (length v.text) v.text (omega arith))

-- ---- where they begin

pub begins-low : (low end : ℕ) (cs : List ℕ) (s : Span) → slice_get (between low cs end) 0 ≡ Some s → s.start ≡ low
begins-low low end [] s is = sym (ap (λ x. x.start) (same_Some (record { start = low; end = end }) s is))
begins-low low end (c ∷ cs) s is = sym (ap (λ x. x.start) (same_Some (record { start = low; end = c }) s is))

-- a file patch begins where a span does
abbrev Begins : Rows → Span → Type 0
Begins rows s = (i : ℕ) × (row : ℕ × List ℕ) × (slice_get rows i ≡ Some row) × (s.start ≡ row.0)

begins-later : (row : ℕ × List ℕ) (rows : Rows) (s : Span) → Begins rows s → Begins (row ∷ rows) s
begins-later row rows s b = (suc b.0, b.1, b.2, b.3)

module _ (every : Bool) (end : ℕ) where
  -- the spans from a place on
  abbrev pub spans : List (List ℕ) → ℕ → Rows → List Span
  spans names low rows = between low (cuts every names rows) end

  begins-at : (names : List (List ℕ)) (low : ℕ) (rows : Rows) (k : ℕ) (s : Span) → slice_get (spans names low rows) (suc k) ≡ Some s → Begins rows s
  begins-at names low [] k s is = absurd (let x = sym (ap (λ l. slice_get (between low l end) (suc k)) (none-cut every names)) ∙ is in cc)
  begins-at names low (row ∷ rows) k s is = by (every || is_among names row.1) refl (begins-at (row.1 ∷ []) row.0 rows) (begins-at (row.1 ∷ names) low rows)
    where
      here : (n : ℕ) → ((m : ℕ) (t : Span) → slice_get (spans (row.1 ∷ []) row.0 rows) (suc m) ≡ Some t → Begins rows t) → slice_get (spans (row.1 ∷ []) row.0 rows) n ≡ Some s → Begins (row ∷ rows) s
      here zero more at = (0, row, refl, begins-low row.0 end (cuts every (row.1 ∷ []) rows) s at)
      here (suc m) more at = begins-later row rows s (more m s at)

      by : (b : Bool) → (every || is_among names row.1) ≡ b → ((m : ℕ) (t : Span) → slice_get (spans (row.1 ∷ []) row.0 rows) (suc m) ≡ Some t → Begins rows t)
          → ((m : ℕ) (t : Span) → slice_get (spans (row.1 ∷ names) low rows) (suc m) ≡ Some t → Begins rows t) → Begins (row ∷ rows) s
      by true e there later = here k there (sym (ap (λ l. slice_get (between low l end) (suc k)) (cut-there every names row rows e)) ∙ is)
      by false e there later = begins-later row rows s (later k s (sym (ap (λ l. slice_get (between low l end) (suc k)) (cut-later every names row rows e)) ∙ is))

pub begins-patch : (text : List ℕ) (ps : List FilePatch) (i : ℕ) (row : ℕ × List ℕ) → slice_get (map (row_of text) ps) i ≡ Some row → (p : FilePatch) × (slice_get ps i ≡ Some p) × (row ≡ row_of text p)
begins-patch text [] i row is = absurd cc
begins-patch text (p ∷ ps) zero row is = (p, refl, sym (same_Some (row_of text p) row is))
begins-patch text (p ∷ ps) (suc i) row is = begins-patch text ps i row is

begins-one : (every : Bool) (text : List ℕ) (end : ℕ) (ps : List FilePatch) (k : ℕ) (s : Span) → slice_get (between 0 (cuts_behind every (map (row_of text) ps)) end) (suc k) ≡ Some s → Begins (map (row_of text) ps) s
begins-one every text end [] k s is = absurd cc
begins-one every text end (p ∷ ps) k s is =
    begins-later (row_of text p) (map (row_of text) ps) s (begins-at every end ((row_of text p).1 ∷ []) 0 (map (row_of text) ps) k s is)

pub no-part : (every : Bool) (v : SetView) (k : ℕ) (s : Span) → v.text ≡ [] → slice_get (parts every v) k ≡ Some s → ⊥
no-part every v k s none at = let e : length v.text ≡ 0 = ap length none in let x : slice_get (parts every v) k ≡ None = rw e refl in let y = sym x ∙ at in absurd cc

pub begin-at-patches : BeginAtPatches
begin-at-patches every v k s is = elim (empty-or v.text) [
  | inl none ↦ absurd (no-part every v (suc k) s none is)
  | inr some ↦ of-row (begins-one every v.text (length v.text) v.patches k s (sym (ap (λ ss. slice_get ss (suc k)) (parts-are every v some)) ∙ is))
]
  where
    of-row : Begins (rows_of v) s → (patch : ℕ) × (p : FilePatch) × (patch_at v patch ≡ Some p) × (s.start ≡ p.span.start)
    of-row b = let p = begins-patch v.text v.patches b.0 b.1 b.2 in (b.0, p.0, p.1, b.3 ∙ ap (λ r. r.0) p.2)
