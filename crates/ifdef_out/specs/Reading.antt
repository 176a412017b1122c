-- What a reader gets of a text with conditions who knows whether the name is defined.
use Rattle.std.specs.Prelude.{◌≡◌, ◌⊎◌, ℕ, List, [], ◌∷◌, ◌++◌, Bool, true, false, not, bytes_eq, ◌||◌, if◌then◌else◌}
use Rattle.line_list.specs.Join.{join, lacks_feed, feed_if}
use Rattle.line_list.specs.Lines.{IsLine, IsOpenLine, lines as text_lines}
use Rattle.line_list.specs.Completed.{completed}
use Rattle.hunk_core.specs.declared.Side.{Side}
use Rattle.read_file_patch.specs.PlainPatch.{PlainChange}
use Rattle.hunk_apply.specs.Change.{change_verdicts}
use Rattle.hunk_apply.specs.Splice.{Edit}
use Rattle.ifdef_out.specs.Tagged.{ifdef_line, ifndef_line, else_line, endif_line, ifdef_text, new_of, tagged}
use Rattle.ifdef_out.specs.Placed.{change_edits}

-- a line with the line feed that it lacks
abbrev pub fed : List ℕ → List ℕ
fed line = line ++ feed_if (lacks_feed line)

-- the lines of the branches that are taken, from a place where lines are taken or left out: a condition that holds takes what follows, one that doesn't leaves it out, `#else` turns that round, and behind `#endif` all is taken
unfoldable pub branch_lines : List ℕ → Bool → Bool → List (List ℕ) → List (List ℕ)
branch_lines name defined taken [] = []
branch_lines name defined taken (l ∷ ls) =
    if bytes_eq l (ifdef_line name) then branch_lines name defined defined ls
    else if bytes_eq l (ifndef_line name) then branch_lines name defined (not defined) ls
    else if bytes_eq l else_line then branch_lines name defined (not taken) ls
    else if bytes_eq l endif_line then branch_lines name defined (not false) ls
    else (if taken then l ∷ [] else []) ++ branch_lines name defined taken ls

abbrev pub is_marking : List ℕ → List ℕ → Bool
is_marking name l = bytes_eq l (ifdef_line name) || (bytes_eq l (ifndef_line name) || (bytes_eq l else_line || bytes_eq l endif_line))

-- what a reader gets of the text that is written, its last line completed
abbrev pub reader_gets : List ℕ → Bool → List (List ℕ) → List Edit → List (List ℕ)
reader_gets name defined lines es = branch_lines name defined true (text_lines (completed (ifdef_text name lines es)))

-- the new lines, joined, of what is written of a change whose hunks have their places in these lines
abbrev pub new_text : List ℕ → List (List ℕ) → ℕ → Bool → Side → PlainChange → List ℕ
new_text name lines fuzz loose side change = join (new_of (tagged name lines (change_edits (change_verdicts lines fuzz loose side change) side change)))

-- a line of a text, perhaps without its line feed, that isn't one of the four marking lines
abbrev pub IsPlain : List ℕ → List ℕ → Type 0
IsPlain name line = (IsLine line ⊎ IsOpenLine line) × (is_marking name (fed line) ≡ false)
