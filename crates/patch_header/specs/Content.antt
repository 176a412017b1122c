-- A line without its line feed, and the lines that are told by all of it.
use Rattle.std.specs.Prelude.{ℕ, ◌-◌, Bool, ◌&&◌, ◌||◌, List, length, take, is_some, nat_eq, bytes_eq, codes, if◌then◌else◌}
use Rattle.std.specs.List.{list_any, ends_with}
use Rattle.hunk_core.specs.LineTests.{after, ends_line}

-- the line without its line feed
abbrev pub content : List ℕ → List ℕ
content line = if ends_line line then take (length line - 1) line else line

-- 'GIT binary patch', or 'Binary files ' in front and ' differ' at the end. `Binary files differ`, where both share the
-- space, is one
abbrev pub is_binary : List ℕ → Bool
is_binary line = bytes_eq (content line) (codes "GIT binary patch") || (is_some (after (codes "Binary files ") (content line)) && ends_with nat_eq (content line) (codes " differ"))

-- '.', which ends the text of an ed command
abbrev pub is_dot : List ℕ → Bool
is_dot line = bytes_eq (content line) (codes ".")

-- one of these lines is '.'
abbrev pub has_dot : List (List ℕ) → Bool
has_dot rest = list_any is_dot rest
