-- Whether the names of header lines are those of the rename or copy in front of them (git-diff(1), "Generating patch text with -p"). Names are compared as they are spelled, quotes with them.
use Rattle.std.specs.Prelude.{ℕ, ◌-◌, Bool, false, not, ◌&&◌, ◌||◌, ◌==◌, nat_lt, nat_eq, List, [], length, take, drop, slice_index, bytes_eq, is_some, unwrap_or, Option, None, Some, codes, if◌then◌else◌}
use Rattle.std.specs.List.{list_any, ends_with}
use Rattle.hunk_core.specs.LineTests.{after}
use Rattle.read_header_record.specs.Quoted.{begins_quoted}
use Rattle.patch_header.specs.Content.{content}
use Rattle.patch_header.specs.Values.{unblanked, name_length, index_length}

-- what stands in a line behind these bytes; nothing where it doesn't begin with them
abbrev pub behind : List ℕ → List ℕ → List ℕ
behind mark line = unwrap_or (after mark (content line)) []

-- the name in front, and all up to the first tab or the end
abbrev pub name_in_front : List ℕ → List ℕ
name_in_front bytes = take (name_length bytes) bytes

abbrev pub all_in_front : List ℕ → List ℕ
all_in_front bytes = take (index_length bytes) bytes

-- the bytes end with a slash and the tail behind it
abbrev pub ends_below : List ℕ → List ℕ → Bool
ends_below bytes tail = nat_lt (length tail) (length bytes) && (slice_index bytes (length bytes - length tail - 1) == 47 && ends_with nat_eq bytes tail)

-- without the quote in front
abbrev pub past_quote : List ℕ → List ℕ
past_quote bytes = if begins_quoted bytes then drop 1 bytes else bytes

-- the name is what a line gives, or ends with a slash and that
abbrev pub is_given : List ℕ → Option (List ℕ) → Bool
is_given name None = false
is_given name (Some given) = bytes_eq name given || ends_below name (past_quote given)

-- a line that begins so gives this name, or any
abbrev pub gives : List ℕ → List ℕ → List ℕ → List ℕ → Bool
gives name one two line = is_given name (after one (content line)) || is_given name (after two (content line))

abbrev pub tells : List ℕ → List ℕ → List ℕ → Bool
tells one two line = is_some (after one (content line)) || is_some (after two (content line))

-- there is no name, or it stands for no file
abbrev pub is_free : List ℕ → Bool
is_free name = bytes_eq name [] || bytes_eq name (codes "/dev/null")

-- any name fits extended lines that give none to its side. A prefix without a slash, as of `--src-prefix=old-`, makes
-- another name. `filterdiff --addprefix` and people who edit header lines leave the git line as it was, so that one isn't
-- compared
abbrev pub fits : List ℕ → List ℕ → List (List ℕ) → List ℕ → Bool
fits one two run name = not (list_any (tells one two) run) || (is_free name || list_any (gives name one two) run)

-- the name of a line that begins with the mark does, up to its end or to the first tab
abbrev pub line_fits : List ℕ → List ℕ → List ℕ → List (List ℕ) → List ℕ → Bool
line_fits mark one two run line = fits one two run (name_in_front (unblanked (behind mark line))) || fits one two run (all_in_front (unblanked (behind mark line)))

-- the name of a line `--- ` fits the extended lines of a git header
unfoldable pub old_fits : List (List ℕ) → List ℕ → Bool
old_fits run line = line_fits (codes "--- ") (codes "rename from ") (codes "copy from ") run line

-- that of a line `+++ `
unfoldable pub new_fits : List (List ℕ) → List ℕ → Bool
new_fits run line = line_fits (codes "+++ ") (codes "rename to ") (codes "copy to ") run line
