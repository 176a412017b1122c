-- The lines in front of the hunks of a file patch: which of them are its own, and what is written of them (manual page of `filterdiff`).
use Rattle.std.specs.Prelude.{ℕ, Bool, true, false, not, ◌&&◌, ◌||◌, List, [], ◌∷◌, ◌++◌, codes, if◌then◌else◌}
use Rattle.hunk_core.specs.declared.Form.{Form}
use Rattle.hunk_core.specs.declared.Form.TheVariants.{Unified, Context, Normal, Ed}
use Rattle.cli_tool_words.specs.PlainJobs.{PlainStyle}
use Rattle.filter_style.specs.Names.{begins, diff_line, header_line}
use Rattle.cli_tool_words.specs.declared.jobs.Numbered.{Numbered}
use Rattle.cli_tool_words.specs.declared.jobs.Numbered.TheVariants.{Before, After}
use Rattle.filter_style.specs.declared.fronts.Parts.{Parts}
use Rattle.filter_style.specs.declared.fronts.FrontLineKind.{FrontLineKind}
use Rattle.filter_style.specs.declared.fronts.FrontLineKind.TheVariants.{Text, Own, OldName, NewName}
use Rattle.filter_style.specs.declared.names.NextName.TheVariants.{Old, New}

-- ---- the two header lines, which stand directly in front of the first hunk

-- these lines are one that begins so
abbrev pub is_last : List ℕ → List (List ℕ) → Bool
is_last mark [] = false
is_last mark (line ∷ []) = begins mark line
is_last mark (line ∷ (next ∷ more)) = false

-- the line and those behind it are the two of this form
abbrev pub is_pair : Form → List ℕ → List (List ℕ) → Bool
is_pair Unified line rest = begins (codes "--- ") line && is_last (codes "+++ ") rest
is_pair Context line rest = begins (codes "*** ") line && is_last (codes "--- ") rest
is_pair Normal line rest = false
is_pair Ed line rest = false

-- ---- a git block: a `diff` line and lines of git, directly in front of them

abbrev pub is_mode_line : List ℕ → Bool
is_mode_line line = (begins (codes "old mode ") line || begins (codes "new mode ") line) || (begins (codes "deleted file mode ") line || begins (codes "new file mode ") line)

abbrev pub is_move_line : List ℕ → Bool
is_move_line line = (begins (codes "copy from ") line || begins (codes "copy to ") line) || (begins (codes "rename from ") line || begins (codes "rename to ") line)

abbrev pub is_index_line : List ℕ → Bool
is_index_line line = begins (codes "index ") line || (begins (codes "similarity index ") line || begins (codes "dissimilarity index ") line)

abbrev pub is_git_line : List ℕ → Bool
is_git_line line = is_mode_line line || (is_move_line line || is_index_line line)

-- the two header lines end these lines; in front of them stand any lines, or lines of git alone
abbrev pub names_behind : Form → Bool → List (List ℕ) → Bool
names_behind form any [] = false
names_behind form any (line ∷ rest) = is_pair form line rest || ((any || is_git_line line) && names_behind form any rest)

-- ---- line by line

-- what a line is, by what the one in front of it is and the lines behind it
abbrev pub place_if : FrontLineKind → Bool → Bool → FrontLineKind
place_if before pair leads = if pair then OldName else if leads then Own else before

abbrev pub place_of : Form → FrontLineKind → List ℕ → List (List ℕ) → FrontLineKind
place_of form OldName line rest = NewName
place_of form NewName line rest = NewName
place_of form Text line rest = place_if Text (is_pair form line rest) (begins (codes "diff ") line && names_behind form false rest)
place_of form Own line rest = place_if Own (is_pair form line rest) (begins (codes "diff ") line && names_behind form false rest)

-- a line of a git block, of which `diff` has names
abbrev pub own_line : PlainStyle → List ℕ → List ℕ
own_line s line = if begins (codes "diff ") line then diff_line s line else line

-- what is written of a line, where lines like it are written
abbrev pub line_at : PlainStyle → Parts → FrontLineKind → List ℕ → List ℕ
line_at s parts Text line = if parts.text then line else []
line_at s parts Own line = if parts.own then own_line s line else []
line_at s parts OldName line = if parts.old then header_line s Old line else []
line_at s parts NewName line = if parts.new then header_line s New line else []

abbrev pub lines_behind : PlainStyle → Form → Parts → FrontLineKind → List (List ℕ) → List ℕ
lines_behind s form parts place [] = []
lines_behind s form parts place (line ∷ rest) = line_at s parts (place_of form place line rest) line ++ lines_behind s form parts (place_of form place line rest) rest

-- all of them; text is left out where header lines tell the names
abbrev pub all_parts : PlainStyle → Form → List (List ℕ) → Parts
all_parts s form lines = record { text = not (s.clean && names_behind form true lines); own = true; old = true; new = true }

unfoldable pub front : PlainStyle → Form → List (List ℕ) → List ℕ
front s form lines = lines_behind s form (all_parts s form lines) Text lines

-- those in front of lines with numbers: a git block, and the header line of their side; text only where all of it is asked for, or no header
-- lines are there
abbrev pub is_before : Numbered → Bool
is_before Before = true
is_before After = false

abbrev pub side_parts : Bool → Numbered → Form → List (List ℕ) → Parts
side_parts all side form lines = record { text = all || not (names_behind form true lines); own = true; old = is_before side; new = not (is_before side) }

unfoldable pub side_front : PlainStyle → Bool → Numbered → Form → List (List ℕ) → List ℕ
side_front s all side form lines = lines_behind s form (side_parts all side form lines) Text lines

-- text alone
abbrev pub text_parts : Parts
text_parts = record { text = true; own = false; old = false; new = false }

unfoldable pub text_front : PlainStyle → Form → List (List ℕ) → List ℕ
text_front s form lines = lines_behind s form text_parts Text lines
