-- A file patch has no hunk exactly where its header is a bare one of git.
use Rattle.std.proofs.Common.{◌≡◌, ◌↔◌, ℕ, ◌+◌, ◌<◌, List, [], ◌∷◌, length, Bool, true, false, refl, sym, ◌∙◌, ap, arith}
use Rattle.std.specs.List.{AllByRecursion}
use Rattle.line_list.specs.declared.Span.{Span}
use Rattle.hunk_core.specs.Pieces.{AreInTurn}
use Rattle.read_file_patch.specs.declared.FilePatch.{FilePatch}
use Rattle.read_file_patch.specs.PlainPatch.{row_count}
use Rattle.patch_set.specs.SetView.{SetView, IsWhole}
use Rattle.patch_set.specs.Spans.{IsPlaced, ArePlaced}

-- spans that go on to a later place are some
some_spans : (at end : ℕ) (ss : List Span) → AreInTurn at ss end → at < end → length ss ≡ 0 → ⊥
some_spans at end [] turn less none = omega (arith, turn, less)
some_spans at end (s ∷ ss) turn less none = omega (arith, none)

no_hunk : (text : List ℕ) (start before : ℕ) (p : FilePatch) → IsPlaced text start before p → p.header.bare ≡ true → row_count p.change ≡ 0
no_hunk text start before p at bare = sym at.each ∙ ap (λ (ss : List Span). length ss) (at.cut.none bare)

is_bare : (text : List ℕ) (start before : ℕ) (p : FilePatch) → IsPlaced text start before p → row_count p.change ≡ 0 → p.header.bare ≡ true
is_bare text start before p at none = by p.header.bare refl
  where
    by : (b : Bool) → p.header.bare ≡ b → p.header.bare ≡ true
    by true is = is
    by false is = absurd (some_spans p.header.at p.span.end p.hunk_spans.items (at.cut.turn is) at.some (at.each ∙ none))

bare_each : (text : List ℕ) (start before : ℕ) (ps : List FilePatch) → ArePlaced text start before ps → AllByRecursion (λ p. (p.header.bare ≡ true) ↔ (row_count p.change ≡ 0)) ps
bare_each text start before [] at = tt
bare_each text start before (p ∷ ps) at = (
  (no_hunk text start before p at.0, is_bare text start before p at.0),
  bare_each text p.span.end (before + row_count p.change) ps at.1,
)

pub bare_told : (v : SetView) → IsWhole v → AllByRecursion (λ p. (p.header.bare ≡ true) ↔ (row_count p.change ≡ 0)) v.patches
bare_told v whole = bare_each v.text 0 0 v.patches whole.placed
