-- The header lines with which a file patch is written anew, in any form and from either side.
use Rattle.std.specs.Prelude.{ℕ, Bool, not, ◌&&◌, ◌||◌, List, [], ◌∷◌, ◌++◌, drop, codes, Option, None, Some, is_some, if◌then◌else◌}
use Rattle.line_list.specs.Lines.{lines}
use Rattle.line_list.specs.declared.Span.{Span}
use Rattle.hunk_core.specs.declared.Form.{Form}
use Rattle.hunk_core.specs.declared.Side.{Side}
use Rattle.hunk_core.specs.declared.Side.TheVariants.{Forward, Reversed}
use Rattle.hunk_core.specs.Turned.{other_side}
use Rattle.read_header_record.specs.declared.Header.{Header}
use Rattle.read_file_patch.specs.PlainPatch.{PlainHeader, header_of}
use Rattle.patch_set.specs.PlainName.{file_name, plain_name}
use Rattle.patch_header.specs.Written.{old_mark, new_mark, name_end}
use Rattle.flip_patch.specs.Marks.{shows_names}

-- the first of some lines, with its line feed
abbrev pub first_line : List (List ℕ) → List ℕ
first_line [] = []
first_line (line ∷ more) = line

-- a line of the text from the first byte of a name on
abbrev pub rest_of_line : List ℕ → Span → List ℕ
rest_of_line text name = first_line (lines (drop name.start text))

-- a mark, and behind it the name and all that follows it in its line; nothing where there is no name
abbrev pub named_line : List ℕ → List ℕ → Option Span → List ℕ
named_line text mark None = []
named_line text mark (Some name) = mark ++ rest_of_line text name

-- the name of the side that is taken as old
abbrev pub span_on : Side → Header → Option Span
span_on Forward h = h.old_name
span_on Reversed h = h.new_name

-- the old and the new name, as the file patch is taken from a side, in lines of this form
abbrev pub name_lines : List ℕ → Form → Side → Header → List ℕ
name_lines text form side h = if shows_names form then named_line text (old_mark form) (span_on side h) ++ named_line text (new_mark form) (span_on (other_side side) h) else []

-- the old or the new name is a file's: `/dev/null` is none
abbrev pub names_file : PlainHeader → Bool
names_file h = is_some (file_name h.old_name) || is_some (file_name h.new_name)

-- no line of a name says which file is meant
abbrev pub needs_index : Form → PlainHeader → Bool
needs_index form h = not (shows_names form && names_file h)

-- 'Index: ' and the name
abbrev pub index_line : List ℕ → List ℕ
index_line name = codes "Index: " ++ (name ++ name_end name)

-- the line that says which file is meant, where no other one does
abbrev pub index_if : Form → PlainHeader → List ℕ
index_if form h = if needs_index form h then index_line (plain_name h) else []

-- the header lines of a file patch that is taken from a side, in this form
abbrev pub header_text : List ℕ → Form → Side → Header → List ℕ
header_text text form side h = index_if form (header_of text h) ++ name_lines text form side h
