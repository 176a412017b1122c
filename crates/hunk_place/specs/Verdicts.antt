-- The verdicts of the hunks of a file, and whether a first hunk looks reversed.
use Rattle.std.specs.Prelude.{◌≡◌, ℕ, ◌+◌, ◌-◌, ◌<◌, ◌≤◌, ◌^◌, ℤ, pos, negsuc, ◌+ℤ◌, ◌-ℤ◌, ◌≤ℤ◌, List, [], ◌∷◌, length, count_by, Bool, true, false, ◌==◌, ◌&&◌, not, nat_lt, if◌then◌else◌, Option, None, Some}
use Rattle.hunk_core.specs.declared.Verdict.{Verdict}
use Rattle.hunk_core.specs.declared.Verdict.TheVariants.{Untried, Ignored, Nowhere, At}
use Rattle.hunk_core.specs.PlainHunk.{Marked, PlainHunk, old_lines}
use Rattle.hunk_core.specs.Turned.{leading, trailing, base, swapped, is_drop, is_add}
use Rattle.hunk_place.specs.declared.Spot.{Spot}
use Rattle.hunk_place.specs.Placing.{place, search_of}
use Rattle.hunk_place.specs.declared.PlaceState.{PlaceState}

-- what is said of a hunk with this place, or none
abbrev pub verdict_of : PlainHunk → Option Spot → Verdict
verdict_of c None = Nowhere
verdict_of c (Some s) = At s.line s.fuzz (pos s.line -ℤ pos (base c))

-- how many lines a hunk adds, and drops
abbrev pub adds : PlainHunk → ℕ
adds c = count_by (λ m. is_add m.mark) c.body

abbrev pub drops : PlainHunk → ℕ
drops c = count_by (λ m. is_drop m.mark) c.body

-- the state behind a hunk: trailing context is never consumed, and a hunk without changes consumes nothing
abbrev pub after_hunk : PlainHunk → PlaceState → Option Spot → PlaceState
after_hunk c state None = state
after_hunk c state (Some s) = record {
  consumed = if (adds c == 0) && (drops c == 0) then state.consumed else (s.line - 1 + length (old_lines c.body)) - trailing c.body;
  offset = pos s.line -ℤ pos (base c);
  net = state.net +ℤ (pos (adds c) -ℤ pos (drops c));
}

-- the state at the beginning of a file
abbrev pub at_start : PlaceState
at_start = record { consumed = 0; offset = pos 0; net = pos 0 }

-- the place of a hunk in a list of lines
unfoldable pub spot : List (List ℕ) → ℕ → Bool → PlainHunk → PlaceState → Option Spot
spot lines fuzz loose c state = place (search_of lines loose c state) fuzz

-- the places of the changes, one after another
unfoldable pub spots : List (List ℕ) → ℕ → Bool → PlaceState → List PlainHunk → List (Option Spot)
spots lines fuzz loose state [] = []
spots lines fuzz loose state (c ∷ cs) = spot lines fuzz loose c state ∷ spots lines fuzz loose (after_hunk c state (spot lines fuzz loose c state)) cs

-- the verdicts of the hunks, one after another
unfoldable pub verdicts : List (List ℕ) → ℕ → Bool → PlaceState → List PlainHunk → List Verdict
verdicts lines fuzz loose state [] = []
verdicts lines fuzz loose state (c ∷ cs) = verdict_of c (spot lines fuzz loose c state) ∷ verdicts lines fuzz loose (after_hunk c state (spot lines fuzz loose c state)) cs

-- a place with less fuzz than any place of the other
abbrev pub is_sooner : Option Spot → Option Spot → Bool
is_sooner None other = false
is_sooner (Some s) None = true
is_sooner (Some s) (Some t) = nat_lt s.fuzz t.fuzz

-- the exchanged hunk has old lines, and a place with less fuzz than any that the hunk itself has (GNU diffutils manual, "Applying Reversed Patches")
unfoldable pub looks_reversed : List (List ℕ) → ℕ → Bool → PlainHunk → Bool
looks_reversed lines fuzz loose c =
    not (length (old_lines (swapped c).body) == 0) && is_sooner (spot lines fuzz loose (swapped c) at_start) (spot lines fuzz loose c at_start)

-- a place behind what was consumed, whose lines but for trailing context lie in the list
abbrev pub IsPlaced : ℕ → ℕ → ℕ → ℕ → Verdict → Type 0
IsPlaced count consumed old_count post Untried = ⊥
IsPlaced count consumed old_count post Ignored = ⊥
IsPlaced count consumed old_count post Nowhere = Unit {0}
IsPlaced count consumed old_count post (At line fuzz offset) = (consumed < line) × (line + old_count ≤ count + 1 + post) × (negsuc (2 ^ 41) ≤ℤ offset) × (offset ≤ℤ pos (2 ^ 41))

-- less fuzz, told by two verdicts
abbrev pub verdict_sooner : Verdict → Verdict → Bool
verdict_sooner (At line fuzz offset) (At line2 fuzz2 offset2) = nat_lt fuzz fuzz2
verdict_sooner (At line fuzz offset) Nowhere = true
verdict_sooner (At line fuzz offset) Untried = true
verdict_sooner (At line fuzz offset) Ignored = true
verdict_sooner Nowhere other = false
verdict_sooner Untried other = false
verdict_sooner Ignored other = false

-- a place with no fuzz
abbrev pub is_without_fuzz : Verdict → Bool
is_without_fuzz (At line fuzz offset) = fuzz == 0
is_without_fuzz Nowhere = false
is_without_fuzz Untried = false
is_without_fuzz Ignored = false
