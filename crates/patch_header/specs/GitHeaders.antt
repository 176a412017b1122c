-- Git headers: a git line, and the extended lines directly behind it (git-diff(1), "Generating patch text with -p").
use Rattle.std.specs.Prelude.{ℕ, Bool, true, false, not, ◌&&◌, ◌||◌, List, [], ◌∷◌, is_some, codes, if◌then◌else◌}
use Rattle.std.specs.List.{list_any}
use Rattle.hunk_core.specs.LineTests.{after}
use Rattle.patch_header.specs.Content.{content}
use Rattle.patch_header.specs.NamesFit.{old_fits, new_fits}
use Rattle.read_header_record.specs.declared.Action.{Action}
use Rattle.read_header_record.specs.declared.Action.TheVariants.{Plain, New, Deleted, Rename, Copy}

-- a line begins with these bytes
abbrev pub starts : List ℕ → List ℕ → Bool
starts mark line = is_some (after mark (content line))

-- the line that a git header begins with
abbrev pub is_git_line : List ℕ → Bool
is_git_line line = starts (codes "diff --git ") line

-- lines that speak of modes
abbrev pub is_mode_line : List ℕ → Bool
is_mode_line line = starts (codes "old mode ") line || (starts (codes "new mode ") line || (starts (codes "new file mode ") line || starts (codes "deleted file mode ") line))

-- lines that give a name
abbrev pub is_name_line : List ℕ → Bool
is_name_line line = starts (codes "rename from ") line || (starts (codes "rename to ") line || (starts (codes "copy from ") line || starts (codes "copy to ") line))

-- lines that speak of contents
abbrev pub is_index_line : List ℕ → Bool
is_index_line line = starts (codes "similarity index ") line || (starts (codes "dissimilarity index ") line || starts (codes "index ") line)

-- an extended line has one of these eleven beginnings
unfoldable pub is_extended : List ℕ → Bool
is_extended line = is_mode_line line || (is_name_line line || is_index_line line)

-- the extended lines of a git header: the longest run of them directly behind its git line
unfoldable pub extended_run : List (List ℕ) → List (List ℕ)
extended_run [] = []
extended_run (line ∷ rest) = if is_extended line then line ∷ extended_run rest else []

-- the lines behind that run
unfoldable pub behind_run : List (List ℕ) → List (List ℕ)
behind_run [] = []
behind_run (line ∷ rest) = if is_extended line then behind_run rest else line ∷ rest

-- the git header that begins these lines with its git line
abbrev pub git_header : List (List ℕ) → List (List ℕ)
git_header [] = []
git_header (line ∷ rest) = line ∷ extended_run rest

-- one of these lines begins so
abbrev pub has_line : List ℕ → List (List ℕ) → Bool
has_line mark ls = list_any (starts mark) ls

-- a file that is new comes before one that is deleted, that before a rename with both its lines, that before a copy with both
unfoldable pub action_of : List (List ℕ) → Action
action_of ls = if has_line (codes "new file mode ") ls then New
    else if has_line (codes "deleted file mode ") ls then Deleted
    else if has_line (codes "rename from ") ls && has_line (codes "rename to ") ls then Rename
    else if has_line (codes "copy from ") ls && has_line (codes "copy to ") ls then Copy
    else Plain

abbrev pub is_plain : Action → Bool
is_plain Plain = true
is_plain New = false
is_plain Deleted = false
is_plain Rename = false
is_plain Copy = false

-- a file's mode is changed: the old and the new one are told
abbrev pub changes_mode : List (List ℕ) → Bool
changes_mode ls = has_line (codes "old mode ") ls && has_line (codes "new mode ") ls

-- something is asked for without a hunk: that a file is new, deleted, renamed or copied, or has another mode
unfoldable pub asks_alone : List (List ℕ) → Bool
asks_alone ls = not (is_plain (action_of ls)) || changes_mode ls

-- a line begins as the range line of a hunk does; where it is none, it is damaged
abbrev pub is_range_like : List ℕ → Bool
is_range_like line = is_some (after (codes "@@ -") line)

-- such a line is the first of these lines
abbrev pub begins_range : List (List ℕ) → Bool
begins_range [] = false
begins_range (line ∷ rest) = is_range_like line

-- a line of the new name, which fits these extended lines of a git header, and a hunk, damaged or not, directly behind it
abbrev pub has_new_name : List (List ℕ) → List (List ℕ) → Bool
has_new_name run [] = false
has_new_name run (line ∷ rest) = starts (codes "+++ ") line && (new_fits run line && begins_range rest)

-- lines of both names, which fit them, and such a hunk directly behind them
abbrev pub has_names : List (List ℕ) → List (List ℕ) → Bool
has_names run [] = false
has_names run (line ∷ rest) = starts (codes "--- ") line && (old_fits run line && has_new_name run rest)

-- a git header leads what begins with these lines: a hunk, damaged or not, or lines of both names that fit it, and such a hunk
abbrev pub leads : List (List ℕ) → List (List ℕ) → Bool
leads run ls = begins_range ls || has_names run ls

-- a bare git header begins these lines: it leads nothing that follows it directly, and asks for something on its own. It is
-- judged by its lines, whatever form is asked for; before a damaged hunk it is neither bare nor in front of an opening, so it is
-- text. `GIT binary patch` behind it is a fault behind that file patch. Lines of names in front of a header that hunks follow
-- directly say nothing
unfoldable pub begins_bare : List (List ℕ) → Bool
begins_bare [] = false
begins_bare (line ∷ rest) = is_git_line line && (not (leads (extended_run rest) (behind_run rest)) && asks_alone (extended_run rest))
