-- What is written of a digest where file patches and hunks are left out.
use Rattle.std.specs.Prelude.{ℕ, Bool, ◌==◌, List, [], ◌∷◌, ◌++◌, map, if◌then◌else◌}
use Rattle.std.specs.List.{flat_map, list_any, range_with_len, zip}
use Rattle.unified_form.specs.declared.hunk_scan.OldRange.{OldRange}
use Rattle.read_file_patch.specs.declared.FilePatch.{FilePatch}
use Rattle.read_file_patch.specs.PlainPatch.{PlainChange, hunks, script, change_of}
use Rattle.filter_choice.specs.Digested.{DigestView}
use Rattle.cli_tool_words.specs.PlainJobs.{PlainFilterJob}
use Rattle.filter_choice.specs.Selected.{numbered}
use Rattle.filter_choice.specs.OldLines.{addressed}
use Rattle.filter_choice.specs.Kept.{is_kept}
use Rattle.patch_filters.specs.Filtered.{region, pieces, chosen, written_bare, is_taken_of}

-- the numbers of the old lines of a hunk
abbrev pub range_numbers : OldRange → List ℕ
range_numbers old = if old.count == 0 then old.start ∷ [] else range_with_len old.start old.count

-- those of each hunk; an ed script is one hunk, and tells them itself
abbrev pub olds_by : PlainChange → List OldRange → List (List ℕ)
olds_by (hunks hs) olds = map range_numbers olds
olds_by (script es) olds = addressed es ∷ []

-- whether each hunk of a file patch is meant, in their order
abbrev pub digest_kept : PlainFilterJob → List ℕ → FilePatch → List OldRange → List Bool
digest_kept j text p olds = map (λ h. is_kept j h.0 h.1) (numbered (olds_by (change_of text p.change) olds))

-- the region and the kept hunks, or nothing where none is kept
abbrev pub digest_hunks : PlainFilterJob → List ℕ → FilePatch → List OldRange → List ℕ
digest_hunks j text p olds = if list_any (λ is. is) (digest_kept j text p olds) then region text p ++ chosen (digest_kept j text p olds) (pieces text p) else []

abbrev pub digest_written : PlainFilterJob → List ℕ → FilePatch → List OldRange → List ℕ
digest_written j text p olds = if p.header.bare then written_bare j text p else digest_hunks j text p olds

-- what is written of a file patch with this number and these old lines, if it is meant
abbrev pub digest_if_taken : PlainFilterJob → List ℕ → ℕ × (FilePatch × List OldRange) → List ℕ
digest_if_taken j text n = if is_taken_of j text (n.0, n.1.0) then digest_written j text n.1.0 n.1.1 else []

-- and of all of them
unfoldable pub filtered_digest : PlainFilterJob → DigestView → List ℕ
filtered_digest j v = flat_map (digest_if_taken j v.text) (numbered (zip v.patches v.olds))
