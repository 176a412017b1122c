-- The text of the hunks of a file patch that have no place (GNU diffutils manual, "Reject File Names"; POSIX `patch`, "Patch Application").
use Rattle.std.specs.Prelude.{ℕ, ℤ, List, [], ◌∷◌, ◌++◌, length, take, drop, map}
use Rattle.std.specs.List.{flat_map, range_with_len, zip}
use Rattle.hunk_core.specs.declared.Form.{Form}
use Rattle.hunk_core.specs.declared.Side.{Side}
use Rattle.hunk_core.specs.declared.Verdict.{Verdict}
use Rattle.hunk_core.specs.declared.Verdict.TheVariants.{Untried, Ignored, Nowhere, At}
use Rattle.hunk_core.specs.PlainHunk.{PlainHunk}
use Rattle.hunk_core.specs.Turned.{turned}
use Rattle.read_file_patch.specs.declared.Change.{Change}
use Rattle.read_file_patch.specs.declared.Change.TheVariants.{Hunks, Script}
use Rattle.read_file_patch.specs.PlainPatch.{PlainChange, hunks, script}
use Rattle.patch_header.specs.Written.{hunk_text}
use Rattle.reject_text.specs.Headers.{headers}
use Rattle.reject_text.specs.Starts.{Row, net, moved}

-- a change is hunks, and no ed script
abbrev pub AreHunks : Change → Type 0
AreHunks (Hunks hs) = Unit {0}
AreHunks (Script s) = ⊥

-- the hunks of a change; an ed script has none
abbrev pub hunks_in : PlainChange → List PlainHunk
hunks_in (hunks hs) = hs
hunks_in (script es) = []

-- the hunks in the direction tried, each with its verdict
abbrev pub rows_of : Side → List PlainHunk → List Verdict → List Row
rows_of side hs verdicts = zip (map (turned side) hs) verdicts

-- a hunk where it has no place, else nothing
abbrev pub if_nowhere : Verdict → PlainHunk → List PlainHunk
if_nowhere Untried h = []
if_nowhere Ignored h = []
if_nowhere Nowhere h = h ∷ []
if_nowhere (At line fuzz offset) h = []

-- what is written of a hunk, behind hunks with this net
abbrev pub reject_of : ℤ → Row → List PlainHunk
reject_of net row = if_nowhere row.1 (moved net row.0)

-- what is written of the first of these hunks
abbrev pub first_reject : ℤ → List Row → List PlainHunk
first_reject net [] = []
first_reject net (row ∷ rows) = reject_of net row

-- what is written of the hunk at this index, behind all that stand in front of it
abbrev pub reject_at : List Row → ℕ → List PlainHunk
reject_at rows i = first_reject (net (take i rows)) (drop i rows)

-- the hunks that have no place, in their order
unfoldable pub rejects : List Row → List PlainHunk
rejects rows = flat_map (reject_at rows) (range_with_len 0 (length rows))

-- two header lines, and the hunks that have no place. A reject text is read back hunk by hunk, and not as one piece: a
-- placed hunk that drops lines can put later starts below earlier ones
abbrev pub reject_text : List PlainHunk → List Verdict → Side → List ℕ → Form → List ℕ
reject_text hs verdicts side name form = headers form name ++ flat_map (hunk_text form) (rejects (rows_of side hs verdicts))
