-- Hunks that are cut out of a text and put one behind the other.
use Rattle.std.proofs.Common.{◌≡◌, ℕ, Bool, true, false, cond, ◌||◌, List, [], ◌∷◌, ◌++◌, map, drop, refl, sym, ap, subst, ◌∙◌}
use Rattle.std.specs.List.{AllByRecursion, flat_map, zip}
use Rattle.std.proofs.lemmas.List.Concat.{flat_map-cons, flat_map-append}
use Rattle.std.proofs.lemmas.List.Folds.{list_any-append}
use Rattle.line_list.specs.Lines.{lines, IsLine}
use Rattle.line_list.specs.declared.Span.{Span}
use Rattle.line_list.proofs.Pieces.{joined, lines-joined}
use Rattle.hunk_core.specs.PlainHunk.{bytes_at}
use Rattle.hunk_core.specs.Pieces.{AreInTurn, AreWhole}
use Rattle.patch_header.specs.Content.{is_dot, has_dot}
use Rattle.patch_filters.specs.Filtered.{text_if, chosen}
use Rattle.law_reading.proofs.Quiet.{or-left_no, or-right_no}
use Rattle.law_filters.specs.LeftPatches.{those}

-- ---- the lines of each piece

abbrev pub owns_of : List ℕ → List Span → List (List (List ℕ))
owns_of text ss = map (λ s. lines (bytes_at text s)) ss

abbrev pub flat : List (List (List ℕ)) → List (List ℕ)
flat owns = flat_map (λ own. own) owns

-- what holds of all lines from a place on, or of none, holds of those of the pieces, and of those behind them
module _ (text : List ℕ) (P : List (List ℕ) → Type 0) (both : (a b : List (List ℕ)) → P (a ++ b) → P a × P b) (none : P []) (join : (a b : List (List ℕ)) → P a → P b → P (a ++ b)) where
  pub pieces-have : (at : ℕ) (ss : List Span) (end : ℕ) (flags : List Bool) → AreInTurn at ss end → AreWhole text ss → P (lines (drop at text)) → P (flat (those flags (owns_of text ss))) × P (lines (drop end text))
  pieces-have at [] end [] turn whole h = (none, subst (λ k. P (lines (drop k text))) turn h)
  pieces-have at [] end (b ∷ flags) turn whole h = (none, subst (λ k. P (lines (drop k text))) turn h)
  pieces-have at (s ∷ ss) end [] turn whole h =
      let here : P (lines (drop s.start text)) = subst (λ k. P (lines (drop k text))) (sym turn.0) h in
      let two = both (lines (bytes_at text s)) (lines (drop s.end text)) (subst P whole.0 here) in
      (none, (pieces-have s.end ss end [] turn.2 whole.1 two.1).1)
  pieces-have at (s ∷ ss) end (b ∷ flags) turn whole h =
      let here : P (lines (drop s.start text)) = subst (λ k. P (lines (drop k text))) (sym turn.0) h in
      let two = both (lines (bytes_at text s)) (lines (drop s.end text)) (subst P whole.0 here) in
      let more = pieces-have s.end ss end flags turn.2 whole.1 two.1 in
      (by b two.0 more.0, more.1)
    where
      by : (v : Bool) → P (lines (bytes_at text s)) → P (flat (those flags (owns_of text ss))) → P (flat (cond v (lines (bytes_at text s) ∷ those flags (owns_of text ss)) (those flags (owns_of text ss))))
      by true p q = subst P (sym (flat_map-cons (λ (own : List (List ℕ)). own) (lines (bytes_at text s)) (those flags (owns_of text ss)))) (join (lines (bytes_at text s)) (flat (those flags (owns_of text ss))) p q)
      by false p q = q

-- ---- what is written of them

joined-append : (a b : List (List ℕ)) → joined (a ++ b) ≡ joined a ++ joined b
joined-append a b = flat_map-append (λ line. line) a b

pub chosen-lines : (text : List ℕ) (flags : List Bool) (ss : List Span) → chosen flags (map (bytes_at text) ss) ≡ joined (flat (those flags (owns_of text ss)))
chosen-lines text [] ss = refl
chosen-lines text (b ∷ flags) [] = refl
chosen-lines text (b ∷ flags) (s ∷ ss) =
    flat_map-cons text_if (b, bytes_at text s) (zip flags (map (bytes_at text) ss))
    ∙ by b (chosen-lines text flags ss)
  where
    by : (v : Bool) → chosen flags (map (bytes_at text) ss) ≡ joined (flat (those flags (owns_of text ss)))
        → text_if (v, bytes_at text s) ++ chosen flags (map (bytes_at text) ss) ≡ joined (flat (cond v (lines (bytes_at text s) ∷ those flags (owns_of text ss)) (those flags (owns_of text ss))))
    by true e =
        ap (λ bs. bytes_at text s ++ bs) e
        ∙ ap (λ bs. bs ++ joined (flat (those flags (owns_of text ss)))) (sym (lines-joined (bytes_at text s)))
        ∙ sym (joined-append (lines (bytes_at text s)) (flat (those flags (owns_of text ss))))
        ∙ ap joined (sym (flat_map-cons (λ (own : List (List ℕ)). own) (lines (bytes_at text s)) (those flags (owns_of text ss))))
    by false e = e

-- ---- lines without '.', and whole lines

pub dots-both : (a b : List (List ℕ)) → has_dot (a ++ b) ≡ false → (has_dot a ≡ false) × (has_dot b ≡ false)
dots-both a b h =
    let was : (has_dot a || has_dot b) ≡ false = sym (list_any-append is_dot a b) ∙ h in
    (or-left_no (has_dot a) (has_dot b) was, or-right_no (has_dot a) (has_dot b) was)

pub dots-join : (a b : List (List ℕ)) → has_dot a ≡ false → has_dot b ≡ false → has_dot (a ++ b) ≡ false
dots-join a b h k = list_any-append is_dot a b ∙ ap (λ v. v || has_dot b) h ∙ k

pub all-both : (a b : List (List ℕ)) → AllByRecursion IsLine (a ++ b) → AllByRecursion IsLine a × AllByRecursion IsLine b
all-both [] b h = (tt, h)
all-both (x ∷ a) b h = let more = all-both a b h.1 in ((h.0, more.0), more.1)
