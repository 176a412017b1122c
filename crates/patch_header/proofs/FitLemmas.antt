-- A test of the extended lines of a git header, line by line.
use Rattle.std.proofs.Common.{◌≡◌, ℕ, Bool, true, false, ◌||◌, List, [], length, drop, slice_range, refl, ap, ◌∙◌}
use Rattle.std.specs.List.{list_any}
use Rattle.line_list.specs.Lines.{lines, IsLineAt}
use Rattle.patch_header.specs.GitHeaders.{is_extended, extended_run}
use Rattle.patch_header.proofs.ScanLemmas.{run-more, run-stops, run-none}

module _ (test : List ℕ → Bool) (text : List ℕ) (at : ℕ) where
  -- the test of the run from a place on
  abbrev any : ℕ → Bool
  any place = list_any test (extended_run (lines (drop place text)))

  pub any-ends : lines (drop at text) ≡ [] → list_any test (extended_run (lines (drop at text))) ≡ false
  any-ends e = ap (λ ls. list_any test (extended_run ls)) e ∙ ap (list_any test) run-none

  module _ (end : ℕ) (line : IsLineAt text at end) where
    pub any-stops : is_extended (slice_range text at end) ≡ false → list_any test (extended_run (lines (drop at text))) ≡ false
    any-stops e = ap (λ ls. list_any test (extended_run ls)) line.first ∙ ap (list_any test) (run-stops (slice_range text at end) (lines (drop end text)) e)

    goes : is_extended (slice_range text at end) ≡ true → any at ≡ (test (slice_range text at end) || any end)
    goes e = ap (λ ls. list_any test (extended_run ls)) line.first ∙ ap (list_any test) (run-more (slice_range text at end) (lines (drop end text)) e)

    pub any-here : is_extended (slice_range text at end) ≡ true → test (slice_range text at end) ≡ true → list_any test (extended_run (lines (drop at text))) ≡ true
    any-here e h = goes e ∙ ap (λ v. v || any end) h

    pub any-on : is_extended (slice_range text at end) ≡ true → test (slice_range text at end) ≡ false → list_any test (extended_run (lines (drop at text))) ≡ list_any test (extended_run (lines (drop end text)))
    any-on e h = goes e ∙ ap (λ v. v || any end) h
