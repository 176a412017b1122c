-- The line that tells what became of the made files.
use Rattle.std.specs.Prelude.{ℕ, ◌-◌, ◌^◌, List, ◌++◌, codes, length, min, count_by, Bool, false, not, if◌then◌else◌}
use Rattle.std.specs.List.{sum_by, range_with_len}
use Rattle.num_text.specs.Numbers.{decimal}
use Rattle.outside.specs.Files.{Files, bytes_at}
use Rattle.hunk_core.specs.declared.Verdict.{Verdict}
use Rattle.hunk_core.specs.declared.Verdict.TheVariants.{Untried, Ignored, Nowhere, At}
use Rattle.hunk_apply.specs.Session.{is_placed, is_zero}
use Rattle.patch_gen.specs.Patches.{file_name}
use Rattle.cli_gen.specs.declared.telling.Summary.{Summary}

-- the hunk was placed at an offset other than 0
abbrev pub is_moved : Verdict → Bool
is_moved Untried = false
is_moved Ignored = false
is_moved Nowhere = false
is_moved (At line fuzz offset) = not (is_zero offset)

-- a u64 that stays at its greatest value
abbrev pub capped : ℕ → ℕ
capped n = min n (2 ^ 64 - 1)

-- the bytes of the files with the first numbers; one that is missing has none
abbrev pub bytes_in : Files → ℕ → ℕ
bytes_in f count = sum_by (λ i. length (bytes_at f (file_name i))) (range_with_len 1 count)

-- a number behind what it tells
abbrev pub field : List ℕ → ℕ → List ℕ
field label number = label ++ decimal number

abbrev pub behind_bytes : ℕ → List ℕ
behind_bytes status = field (codes " status ") status ++ codes "\n"

abbrev pub behind_moved : ℕ → ℕ → List ℕ
behind_moved bytes status = field (codes " bytes ") bytes ++ behind_bytes status

abbrev pub behind_applied : ℕ → ℕ → ℕ → List ℕ
behind_applied moved bytes status = field (codes " moved ") moved ++ behind_moved bytes status

abbrev pub behind_hunks : ℕ → ℕ → ℕ → ℕ → List ℕ
behind_hunks applied moved bytes status = field (codes " applied ") applied ++ behind_applied moved bytes status

abbrev pub behind_files : ℕ → ℕ → ℕ → ℕ → ℕ → List ℕ
behind_files hunks applied moved bytes status = field (codes " hunks ") hunks ++ behind_hunks applied moved bytes status

-- `files F hunks H applied A moved M bytes B status T`
abbrev pub summary_line : ℕ → ℕ → ℕ → ℕ → ℕ → ℕ → List ℕ
summary_line files hunks applied moved bytes status = field (codes "files ") files ++ behind_files hunks applied moved bytes status

-- the line of these numbers
abbrev pub line_of : Summary → List ℕ
line_of s = summary_line s.files s.hunks s.applied s.moved s.bytes s.status

-- of so many files and hunks, by the verdicts of a run and the files behind it
abbrev pub summary_of : ℕ → ℕ → List Verdict → Files → Bool → List ℕ
summary_of files hunks verdicts f is_bad = summary_line files hunks (count_by is_placed verdicts) (count_by is_moved verdicts) (capped (bytes_in f files)) (if is_bad then 1 else 0)
