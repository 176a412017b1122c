-- What a list of file patches says (manual page of `lsdiff`).
use Rattle.std.specs.Prelude.{ℕ, nat_lt, Bool, false, not, ◌&&◌, ◌||◌, filter, List, [], ◌∷◌, ◌++◌, codes, Option, None, Some, if◌then◌else◌}
use Rattle.std.specs.List.{flat_map, list_any}
use Rattle.num_text.specs.Numbers.{decimal}
use Rattle.hunk_core.specs.PlainHunk.{PlainHunk}
use Rattle.hunk_core.specs.Sides.{is_on_side}
use Rattle.hunk_core.specs.declared.Side.{Side}
use Rattle.hunk_core.specs.declared.Side.TheVariants.{Forward, Reversed}
use Rattle.read_file_patch.specs.declared.FilePatch.{FilePatch}
use Rattle.read_file_patch.specs.PlainPatch.{PlainChange, PlainPatch, hunks, script, patch_of}
use Rattle.read_file_patch.specs.Actions.{is_moved}
use Rattle.read_file_patch.specs.Absent.{is_absent}
use Rattle.patch_set.specs.PlainName.{plain_name}
use Rattle.patch_set.specs.SetView.{SetView}
use Rattle.cli_tool_words.specs.PlainJobs.{PlainShown, PlainListJob}
use Rattle.filter_choice.specs.Selected.{is_selected, numbered}
use Rattle.filter_choice.specs.Shown.{shown_name}
use Rattle.patch_filters.specs.Filtered.{text_if}
use Rattle.patch_filters.specs.HunkLines.{hunk_lines}

-- a hunk has a line on this side
abbrev pub has_line : Side → PlainHunk → Bool
has_line side h = list_any (λ m. is_on_side side m.mark) h.body

-- there are hunks, and none has a line on this side
abbrev pub has_no_line : Side → PlainChange → Bool
has_no_line side (hunks []) = false
has_no_line side (hunks (h ∷ hs)) = not (list_any (has_line side) (h ∷ hs))
has_no_line side (script es) = false

-- the side is no file; where that is asked for, also one of which no hunk has a line
abbrev pub is_gone : Bool → Side → PlainPatch → Bool
is_gone empty side p = is_absent side p || (empty && has_no_line side p.change)

-- whether the old side is no file, or else the new one, or both are files; a file that is renamed or copied has both sides
abbrev pub sign : Bool → PlainPatch → List ℕ
sign empty p = if is_moved p.header.action then codes "! " else if is_gone empty Forward p then codes "+ " else if is_gone empty Reversed p then codes "- " else codes "! "

-- a number and a tab, where it is asked for
abbrev pub number_text : Bool → ℕ → List ℕ
number_text is_asked number = if is_asked then decimal number ++ codes "\t" else []

-- the sign, where it is asked for
abbrev pub sign_text : PlainShown → PlainPatch → List ℕ
sign_text s p = if s.status then sign s.empty_absent p else []

-- blanks behind a number that has less than three digits
abbrev pub blanks : ℕ → List ℕ
blanks number = if nat_lt number 10 then codes "  " else if nat_lt number 100 then codes " " else []

-- the number of a file patch, and a tab
abbrev pub file_line : ℕ → List ℕ
file_line number = ((codes "File #" ++ decimal number) ++ blanks number) ++ codes "\t"

-- the same where there is a number to be shown
abbrev pub file_text : Option ℕ → List ℕ
file_text None = []
file_text (Some number) = file_line number

-- what stands in front of a name: the number of the line of the names, that of the file patch, and the sign
abbrev pub front : PlainShown → Option ℕ → PlainPatch → List ℕ
front s number p = (number_text s.numbers p.header.names_line ++ file_text number) ++ sign_text s p

-- the line of a file patch, with its name as it is shown
abbrev pub own_line : PlainShown → Option ℕ → PlainPatch → List ℕ
own_line s number p = front s number p ++ (shown_name s.prefix s.strip (plain_name p.header) ++ codes "\n")

-- the same behind the name of its text, where that is shown
abbrev pub name_line : PlainShown → Option ℕ → PlainPatch → List ℕ
name_line s number p = s.label ++ own_line s number p

-- the file patch is selected
abbrev pub is_listed : PlainListJob → PlainPatch → Bool
is_listed j p = is_selected j.select (plain_name p.header)

-- the number of a file patch, where it is to be shown
abbrev pub file_number : PlainListJob → ℕ → Option ℕ
file_number j number = if j.number_files then Some number else None

-- the line of a file patch with its number, which counts all file patches of the text
abbrev pub list_line : PlainListJob → ℕ × PlainPatch → List ℕ
list_line j n = name_line j.shown (file_number j n.0) n.1

-- a line for each selected file patch
unfoldable pub listed : PlainListJob → List PlainPatch → List ℕ
listed j ps = flat_map (list_line j) (filter (λ n. is_listed j n.1) (numbered ps))

-- the same of one file patch
abbrev pub line_if_selected : PlainListJob → ℕ × PlainPatch → List ℕ
line_if_selected j n = if is_listed j n.1 then list_line j n else []

-- ---- with all hunks at hand

-- the hunks are asked for: their lines, or whether one has a line on a side
abbrev pub asks_hunks : PlainShown → Bool
asks_hunks s = s.hunks || s.empty_absent

-- the line of a file patch, and those of its hunks where they are asked for
abbrev pub list_lines : PlainListJob → List ℕ → ℕ × FilePatch → List ℕ
list_lines j text n = list_line j (n.0, patch_of text n.1) ++ text_if (j.shown.hunks, flat_map (λ line. line) (hunk_lines j.shown.hunk_label text n.1))

-- those of each selected file patch
unfoldable pub listed_whole : PlainListJob → SetView → List ℕ
listed_whole j v = flat_map (list_lines j v.text) (filter (λ n. is_listed j (patch_of v.text n.1)) (numbered v.patches))

-- the same of one file patch
abbrev pub lines_if_selected : PlainListJob → List ℕ → ℕ × FilePatch → List ℕ
lines_if_selected j text n = if is_listed j (patch_of text n.1) then list_lines j text n else []
