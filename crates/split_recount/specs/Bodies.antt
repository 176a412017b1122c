-- The body of a hunk whose counts aren't trusted: where it ends, what it has on each side, and its backslash lines.
use Rattle.std.specs.Prelude.{ℕ, ◌+◌, Bool, false, not, ◌==◌, ◌&&◌, ◌||◌, List, [], ◌∷◌, codes, filter_map, bytes_eq, Option, None, Some, is_some, option_map, if◌then◌else◌}
use Rattle.hunk_core.specs.declared.Mark.{Mark}
use Rattle.hunk_core.specs.PlainHunk.{Marked}
use Rattle.hunk_core.specs.LineTests.{after, is_backslash}
use Rattle.unified_form.specs.declared.body.Left.{Left}
use Rattle.unified_form.specs.Ranges.{is_opening}
use Rattle.unified_form.specs.Bodies.{mark_at, is_last_line}
use Rattle.unified_form.specs.Grammar.{counts_of}

-- a line begins with these bytes
abbrev pub begins : List ℕ → List ℕ → Bool
begins prefix line = is_some (after prefix line)

-- `--- ` before a line that begins with `+++ `
abbrev pub begins_header : List ℕ → List (List ℕ) → Bool
begins_header line [] = false
begins_header line (next ∷ rest) = begins (codes "--- ") line && begins (codes "+++ ") next

-- a space, a plus, a minus, or a backslash and a space
abbrev pub is_body_line : List ℕ → Bool
is_body_line [] = false
is_body_line (b ∷ bytes) = b == 32 || b == 43 || b == 45 || is_backslash (b ∷ bytes)

-- the line `-- ` of a mailed patch
abbrev pub is_signature : List ℕ → Bool
is_signature line = bytes_eq line (45 ∷ 45 ∷ 32 ∷ 10 ∷ [])

-- nothing but its line feed
abbrev pub is_empty : List ℕ → Bool
is_empty line = bytes_eq line (10 ∷ [])

-- a body ends in front of this line, which these follow. `@@ -` without a digit is no opening: it ends a body and stays as
-- it is
unfoldable pub ends_body : List ℕ → List (List ℕ) → Bool
ends_body line rest = is_opening line || is_signature line || begins_header line rest || is_empty line || not (is_body_line line)

-- the body that stands first in these lines: all up to the first that ends it
unfoldable pub body_of : List (List ℕ) → List (List ℕ)
body_of [] = []
body_of (line ∷ rest) = if ends_body line rest then [] else line ∷ body_of rest

-- the lines of a body that have a mark
abbrev pub marked_lines : List (List ℕ) → List Marked
marked_lines body = filter_map mark_at body

-- the mark of a line
abbrev pub mark_in : List ℕ → Option Mark
mark_in line = option_map (λ m. m.mark) (mark_at line)

-- a backslash line may stand directly behind a line with this mark where this much of the body follows
abbrev pub may_stand : Option Mark → Left → Bool
may_stand None behind = false
may_stand (Some mark) behind = is_last_line mark behind

-- the number of the first backslash line that stands elsewhere than directly behind a line that is the last of its sides
unfoldable pub misplaced : Option Mark → ℕ → List (List ℕ) → Option ℕ
misplaced before number [] = None
misplaced before number (line ∷ rest) = if is_backslash line && not (may_stand before (counts_of (marked_lines rest))) then Some number else misplaced (mark_in line) (number + 1) rest
