-- Where a hunk starts in a file that other hunks have changed (POSIX `patch`, "Patch Application"; GNU diffutils manual, "Applying Imperfect Patches").
use Rattle.std.specs.Prelude.{ℕ, ◌-◌, ◌==◌, nat_lt, ℤ, pos, negsuc, ◌+ℤ◌, ◌-ℤ◌, List, [], ◌∷◌, length, sum_by, if◌then◌else◌, Bool}
use Rattle.hunk_core.specs.declared.Verdict.{Verdict}
use Rattle.hunk_core.specs.declared.Verdict.TheVariants.{Untried, Ignored, Nowhere, At}
use Rattle.hunk_core.specs.PlainHunk.{PlainHunk, old_lines, new_lines}
use Rattle.hunk_place.specs.declared.PlaceState.{PlaceState}
use Rattle.hunk_place.specs.Verdicts.{adds, drops, after_hunk, spot}

-- a hunk as it was tried, and what became of it
abbrev pub Row : Type 0
Row = PlainHunk × Verdict

-- a number of a hunk that counts only where the hunk is placed
abbrev pub if_placed : Verdict → ℕ → ℕ
if_placed Untried n = 0
if_placed Ignored n = 0
if_placed Nowhere n = 0
if_placed (At line fuzz offset) n = n

-- the lines that a placed hunk adds, and drops
abbrev pub placed_adds : Row → ℕ
placed_adds row = if_placed row.1 (adds row.0)

abbrev pub placed_drops : Row → ℕ
placed_drops row = if_placed row.1 (drops row.0)

-- the lines that the placed ones of these hunks add, less those that they drop
abbrev pub net : List Row → ℤ
net rows = pos (sum_by placed_adds rows) -ℤ pos (sum_by placed_drops rows)

-- how far the placing has come behind these hunks, each hunk placed in turn
unfoldable pub state_behind : List (List ℕ) → ℕ → Bool → PlaceState → List PlainHunk → PlaceState
state_behind lines fuzz loose state [] = state
state_behind lines fuzz loose state (h ∷ hs) = state_behind lines fuzz loose (after_hunk h state (spot lines fuzz loose h state)) hs

-- the least and the greatest start of a side with so many lines
abbrev pub least_start : ℕ → ℕ
least_start count = if count == 0 then 0 else 1

abbrev pub greatest_start : ℕ → ℕ
greatest_start count = 4294967295 - count

-- a number, or the end of the range that it lies beyond
abbrev pub put_between : ℕ → ℕ → ℤ → ℕ
put_between low high (negsuc n) = low
put_between low high (pos n) = if nat_lt n low then low else if nat_lt high n then high else n

-- the start of a side with so many lines, behind hunks with this net
abbrev pub moved_start : ℕ → ℤ → ℕ → ℕ
moved_start start net count = put_between (least_start count) (greatest_start count) (pos start +ℤ net)

-- a hunk with both its starts moved
abbrev pub moved : ℤ → PlainHunk → PlainHunk
moved net h = record {
  old_start = moved_start h.old_start net (length (old_lines h.body));
  new_start = moved_start h.new_start net (length (new_lines h.body));
  body = h.body;
}
