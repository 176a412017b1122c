-- Blocks as commands of the normal form and of ed scripts (GNU diffutils manual, "Detailed Description of Normal Format" and "Detailed Description of ed Scripts").
use Rattle.std.specs.Prelude.{ℕ, ◌+◌, ◌-◌, Bool, true, false, ◌==◌, List, [], ◌∷◌, ◌++◌, codes, length, reverse, if◌then◌else◌}
use Rattle.std.specs.List.{flat_map}
use Rattle.hunk_core.specs.Letters.{letter}
use Rattle.hunk_core.specs.declared.Side.{Side}
use Rattle.hunk_core.specs.declared.Form.{Form}
use Rattle.hunk_core.specs.declared.Form.TheVariants.{Unified, Context, Normal, Ed}
use Rattle.ed_form.specs.Texts.{is_dot}
use Rattle.read_file_patch.specs.PlainPatch.{PlainChange, hunks, script}
use Rattle.normal_form.specs.Canonical.{action_for, line_text, lines_text}
use Rattle.hunk_core.specs.Spans.{span_text}
use Rattle.format_convert.specs.Blocks.{Block, Edit, blocks_in}
use Rattle.format_convert.specs.Fronts.{front}

-- the start of a range of so many lines from this line on; an empty one starts at the line in front of it
abbrev pub range_start : ℕ → ℕ → ℕ
range_start first count = if count == 0 then first - 1 else first

-- ---- normal

-- where the new lines of a block begin, behind blocks that added and dropped so many lines
abbrev pub new_first : ℕ → ℕ → Block → ℕ
new_first adds drops b = b.first + adds - drops

-- a command with its lines
abbrev pub normal_command : ℕ → ℕ → Block → List ℕ
normal_command adds drops b = lines_text (range_start b.first (length b.dropped)) (range_start (new_first adds drops b) (length b.added)) b.dropped b.added

-- a command for each block, behind blocks that added and dropped so many lines
unfoldable pub normal_behind : ℕ → ℕ → List Block → List ℕ
normal_behind adds drops [] = []
normal_behind adds drops (b ∷ bs) = normal_command adds drops b ++ normal_behind (adds + length b.added) (drops + length b.dropped) bs

-- the lines of one side of the block that edits begin with in this gap, as the normal form writes them
abbrev pub side_text : Side → ℕ → List Edit → List ℕ
side_text side gap es = flat_map (line_text side) (front side gap es)

abbrev pub normal_text : List Block → List ℕ
normal_text bs = normal_behind 0 0 bs

-- ---- ed

-- a text has more lines
abbrev pub goes_on : List (List ℕ) → Bool
goes_on [] = false
goes_on (line ∷ more) = true

-- a line of a text, behind the last one the `.` that ends it; a line that is a `.` is written as two of them, of which one is taken off behind the end, and `a` opens what is left
abbrev pub ed_line : List ℕ → Bool → List ℕ
ed_line line more = if is_dot line then codes "..\n.\ns/.//\n" ++ (if more then codes "a\n" else []) else line ++ (if more then [] else codes ".\n")

-- the lines of a text; where it has none there is no text
unfoldable pub ed_lines : List (List ℕ) → List ℕ
ed_lines [] = []
ed_lines (line ∷ more) = ed_line line (goes_on more) ++ ed_lines more

-- the addresses and the letter of a command that drops and adds so many lines
abbrev pub ed_head : ℕ → ℕ → ℕ → List ℕ
ed_head first drops adds = (span_text (range_start first drops) drops ++ letter (action_for drops adds) ∷ []) ++ 10 ∷ []

-- a command with its text
abbrev pub ed_command : Block → List ℕ
ed_command b = ed_head b.first (length b.dropped) (length b.added) ++ ed_lines b.added

-- a command for each block, from the last one, so that none moves the lines of those behind it
abbrev pub ed_text : List Block → List ℕ
ed_text bs = flat_map ed_command (reverse bs)

-- ---- what a change is as commands

-- an ed script doesn't say what a normal command shows, and the other forms have no commands
abbrev pub command_text : Form → PlainChange → List ℕ
command_text Unified c = []
command_text Context c = []
command_text Normal (hunks hs) = normal_text (blocks_in (hunks hs))
command_text Normal (script es) = []
command_text Ed c = ed_text (blocks_in c)
