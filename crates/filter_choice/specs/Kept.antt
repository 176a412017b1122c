-- Which hunks are kept (manual page of `filterdiff`).
use Rattle.std.specs.Prelude.{ℕ, suc, Bool, false, ◌&&◌, List, map, slice_index_or}
use Rattle.read_file_patch.specs.PlainPatch.{PlainChange, PlainHeader, PlainPatch}
use Rattle.patch_set.specs.PlainName.{plain_name}
use Rattle.cli_tool_words.specs.PlainJobs.{PlainFilterJob}
use Rattle.filter_choice.specs.Selected.{is_selected, is_meant, is_one_meant, numbered}
use Rattle.filter_choice.specs.OldLines.{old_of_each}

-- the file patch with this number is meant
abbrev pub is_taken : PlainFilterJob → ℕ → PlainHeader → Bool
is_taken j number h = is_selected j.select (plain_name h) && is_meant j.files number

-- the hunk with this number and these old lines is meant
abbrev pub is_kept : PlainFilterJob → ℕ → List ℕ → Bool
is_kept j number olds = is_meant j.hunks number && is_one_meant j.lines olds

-- whether each hunk of a change is meant, in their order
abbrev pub kept : PlainFilterJob → PlainChange → List Bool
kept j c = map (λ h. is_kept j h.0 h.1) (numbered (old_of_each c))

-- whether a hunk of a file patch is kept, both counted from 0
abbrev pub keeps : PlainFilterJob → ℕ → PlainPatch → ℕ → Bool
keeps j patch p hunk = is_taken j (suc patch) p.header && slice_index_or (kept j p.change) hunk false
