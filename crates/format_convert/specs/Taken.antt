-- Which file patches are written anew, and what is left of them (manual page of `filterdiff`).
use Rattle.std.specs.Prelude.{ℕ, Bool, List, [], ◌∷◌, length, map, if◌then◌else◌}
use Rattle.std.specs.List.{flat_map, list_any, range_with_len, zip}
use Rattle.hunk_core.specs.PlainHunk.{PlainHunk}
use Rattle.read_file_patch.specs.PlainPatch.{PlainChange, PlainPatch, hunks, script, hunk_count}
use Rattle.filter_choice.specs.Kept.{keeps}
use Rattle.cli_tool_words.specs.PlainJobs.{PlainFilterJob}

-- whether each hunk of a file patch is kept, in their order; the file patch is counted from 0
abbrev pub flags : PlainFilterJob → ℕ → PlainPatch → List Bool
flags j patch p = map (keeps j patch p) (range_with_len 0 (hunk_count p.change))

-- one of them is
abbrev pub has_kept : PlainFilterJob → ℕ → PlainPatch → Bool
has_kept j patch p = list_any (λ is. is) (flags j patch p)

-- a hunk that is kept, or none
abbrev pub hunk_if : Bool × PlainHunk → List PlainHunk
hunk_if row = if row.0 then row.1 ∷ [] else []

-- the hunks that are kept
abbrev pub kept_hunks : List Bool → List PlainHunk → List PlainHunk
kept_hunks are hs = flat_map hunk_if (zip are hs)

-- what is left of a change of which a hunk is kept; an ed script is one hunk
abbrev pub left_change : List Bool → PlainChange → PlainChange
left_change are (hunks hs) = hunks (kept_hunks are hs)
left_change are (script es) = script es

-- a file patch with the hunks that are kept alone
abbrev pub left_patch : PlainFilterJob → ℕ → PlainPatch → PlainPatch
left_patch j patch p = record { header = p.header; change = left_change (flags j patch p) p.change }

-- a file patch, behind its number, of which a hunk is kept, or none
abbrev pub patch_if : PlainFilterJob → ℕ × PlainPatch → List PlainPatch
patch_if j row = if has_kept j row.0 row.1 then left_patch j row.0 row.1 ∷ [] else []

-- what is left of file patches: those of which a hunk is kept, with these hunks alone
unfoldable pub left_patches : PlainFilterJob → List PlainPatch → List PlainPatch
left_patches j ps = flat_map (patch_if j) (zip (range_with_len 0 (length ps)) ps)
