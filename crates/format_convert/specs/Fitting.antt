-- Which hunks can't be written as commands (GNU diffutils manual, "Detailed Description of Normal Format" and "Detailed Description of ed Scripts").
use Rattle.std.specs.Prelude.{ℕ, ◌+◌, ◌-◌, Bool, true, false, not, nat_lt, ◌||◌, ◌&&◌, List, [], ◌∷◌, length, map, filter}
use Rattle.std.specs.List.{flat_map, list_any}
use Rattle.hunk_core.specs.declared.Form.{Form}
use Rattle.hunk_core.specs.declared.Form.TheVariants.{Unified, Context, Normal, Ed}
use Rattle.hunk_core.specs.declared.Mark.{Mark}
use Rattle.hunk_core.specs.declared.Side.{Side}
use Rattle.hunk_core.specs.declared.Side.TheVariants.{Forward, Reversed}
use Rattle.hunk_core.specs.PlainHunk.{Marked, PlainHunk, old_lines}
use Rattle.hunk_core.specs.LineTests.{ends_line}
use Rattle.hunk_core.specs.Rules.{lacks_inner_end, is_too_large}
use Rattle.hunk_core.specs.Turned.{base, is_add, is_drop}
use Rattle.read_file_patch.specs.PlainPatch.{PlainChange, hunks, script}
use Rattle.format_convert.specs.Blocks.{Block, blocks_in}
use Rattle.format_convert.specs.Commands.{new_first, range_start}

abbrev pub is_ed : Form → Bool
is_ed Unified = false
is_ed Context = false
is_ed Normal = false
is_ed Ed = true

-- a hunk stands before the end of the old lines of the hunk in front of it, the first one before line `end`
unfoldable pub falls_behind : ℕ → List PlainHunk → Bool
falls_behind end [] = false
falls_behind end (h ∷ hs) = nat_lt (base h) end || falls_behind (base h + length (old_lines h.body)) hs

abbrev pub falls_back : List PlainHunk → Bool
falls_back hs = falls_behind 0 hs

-- a command has a number above the greatest, or a start and a count that come above it together
abbrev pub is_large_normal : ℕ → ℕ → Block → Bool
is_large_normal adds drops b = is_too_large (range_start b.first (length b.dropped)) (length b.dropped) || is_too_large (range_start (new_first adds drops b) (length b.added)) (length b.added)

unfoldable pub has_large_normal : ℕ → ℕ → List Block → Bool
has_large_normal adds drops [] = false
has_large_normal adds drops (b ∷ bs) = is_large_normal adds drops b || has_large_normal (adds + length b.added) (drops + length b.dropped) bs

-- of an ed command both addresses count, of `a` the line behind the one that it names
abbrev pub is_large_ed : Block → Bool
is_large_ed b = nat_lt 4294967295 b.first || nat_lt 4294967295 (b.first + length b.dropped - 1)

-- a command would be written that readers refuse for its numbers
abbrev pub has_large_command : Form → List Block → Bool
has_large_command Unified bs = false
has_large_command Context bs = false
has_large_command Normal bs = has_large_normal 0 0 bs
has_large_command Ed bs = list_any is_large_ed bs

-- ---- lines without their line feed

-- a line is dropped, or of the other side it is added
abbrev pub is_own : Side → Mark → Bool
is_own Forward mark = is_drop mark
is_own Reversed mark = is_add mark

-- the lines of a body that are of one side alone
abbrev pub own_lines : Side → List Marked → List (List ℕ)
own_lines side body = map (λ m. m.line) (filter (λ m. is_own side m.mark) body)

-- those of hunks
abbrev pub changed_lines : Side → List PlainHunk → List (List ℕ)
changed_lines side hs = flat_map (λ h. own_lines side h.body) hs

-- a line without its line feed
abbrev pub has_open : List (List ℕ) → Bool
has_open ls = list_any (λ line. not (ends_line line)) ls

-- one that isn't the last of the dropped or of the added lines, or an added one that would go to an ed script
abbrev pub has_open_line : Form → List PlainHunk → Bool
has_open_line wanted hs = (is_ed wanted && has_open (changed_lines Reversed hs)) || (lacks_inner_end (changed_lines Forward hs) || lacks_inner_end (changed_lines Reversed hs))

-- ---- what doesn't fit

-- the change can't be written as commands of this form. A script has no old lines that could fall back or lack a line feed,
-- and the lines that it adds have theirs; it is written as a script alone. A dropped line without its line feed isn't shown
-- in an ed script, but is refused where it isn't the last: no file has such a line
abbrev pub is_unfit : Form → PlainChange → Bool
is_unfit wanted (hunks hs) = falls_back hs || (has_open_line wanted hs || has_large_command wanted (blocks_in (hunks hs)))
is_unfit wanted (script es) = is_ed wanted && list_any is_large_ed (blocks_in (script es))
