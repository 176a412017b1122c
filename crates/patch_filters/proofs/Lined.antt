-- Whether hunks have a line on a side, as the struct of the code tells it.
use Rattle.std.proofs.Common.{◌≡◌, true, false, ℕ, List, [], ◌∷◌, length, refl, ap, ◌∙◌, arith}
use Rattle.std.specs.Prelude.{not, ◌==◌}
use Rattle.std.specs.List.{list_any}
use Rattle.std.proofs.lemmas.Bool.{eqb-true}
use Rattle.hunk_core.specs.Sides.{is_on_side}
use Rattle.hunk_core.specs.declared.Hunk.{Hunk}
use Rattle.hunk_core.specs.declared.Side.{Side}
use Rattle.hunk_core.specs.PlainHunk.{Marked, hunk_of, hunks_of, marked_of}
use Rattle.read_file_patch.specs.PlainPatch.{hunks}
use Rattle.filter_choice.proofs.Rows.{any-map}
use Rattle.patch_filters.specs.Listed.{has_line, has_no_line}

module _ (text : List ℕ) (side : Side) where
  pub none-at-all : (hs : List Hunk) → (length hs == 0) ≡ true → false ≡ has_no_line side (hunks (hunks_of text hs))
  none-at-all [] is = refl
  none-at-all (h ∷ hs) is = absurd (omega (arith, eqb-true (length (h ∷ hs)) 0 is))

  pub none-with-line : (hs : List Hunk) → (length hs == 0) ≡ false → not (list_any (λ h. list_any (λ l. is_on_side side l.mark) h.body.items) hs) ≡ has_no_line side (hunks (hunks_of text hs))
  none-with-line [] is = absurd cc
  none-with-line (h ∷ hs) is =
      (λ i. not (list_any (λ (x : Hunk). any-map (λ (m : Marked). is_on_side side m.mark) (marked_of text) x.body.items i) (h ∷ hs)))
      ∙ ap not (any-map (has_line side) (hunk_of text) (h ∷ hs))
