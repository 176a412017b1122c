-- What is written, in words of its own.
use Rattle.std.specs.Prelude.{◌≡◌, ℕ, suc, ◌<◌, ◌&&◌, ◌↔◌, true, false, [], None, Some}
use Rattle.std.specs.List.{flat_map}
use Rattle.hunk_core.specs.PlainHunk.{bytes_at}
use Rattle.read_file_patch.specs.declared.FilePatch.{FilePatch}
use Rattle.read_file_patch.specs.PlainPatch.{patch_of, row_count}
use Rattle.patch_set.specs.SetView.{SetView, IsWhole, patch_at}
use Rattle.cli_tool_words.specs.PlainJobs.{PlainFilterJob}
use Rattle.filter_choice.specs.Kept.{keeps}
use Rattle.patch_filters.specs.Filtered.{filtered, asks_no_hunk, is_taken_of, written_if_taken}

-- nothing is asked for: no name is excluded, none has to be included, and each number is meant
pub record AsksNothing (j : PlainFilterJob) : Type 0 where
  pub exclude : j.select.exclude ≡ []
  pub include : j.select.only_included ≡ false
  pub hunks : j.hunks ≡ None
  pub lines : j.lines ≡ None
  pub files : j.files ≡ None

-- then all file patches of a set are written as they are, one behind the other
abbrev pub WritesAll : Type 0
WritesAll = (j : PlainFilterJob) (v : SetView) → IsWhole v → AsksNothing j → filtered j v ≡ flat_map (λ p. bytes_at v.text p.span) v.patches

-- nothing is written of a file patch with hunks exactly where none of them is kept
abbrev pub WritesNone : Type 0
WritesNone = (j : PlainFilterJob) (v : SetView) (patch : ℕ) (p : FilePatch) → IsWhole v → patch_at v patch ≡ Some p → p.header.bare ≡ false
    → (written_if_taken j v.text (suc patch, p) ≡ []) ↔ ((hunk : ℕ) → hunk < row_count p.change → keeps j patch (patch_of v.text p) hunk ≡ false)

-- nothing is written of a bare git header exactly where it isn't meant, or hunks are asked for
abbrev pub WritesNoBare : Type 0
WritesNoBare = (j : PlainFilterJob) (v : SetView) (patch : ℕ) (p : FilePatch) → IsWhole v → patch_at v patch ≡ Some p → p.header.bare ≡ true
    → (written_if_taken j v.text (suc patch, p) ≡ []) ↔ ((is_taken_of j v.text (suc patch, p) && asks_no_hunk j) ≡ false)
