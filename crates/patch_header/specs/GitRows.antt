-- What the lines of a git header say, as lines of a text.
use Rattle.std.specs.Prelude.{ℕ, ◌+◌, ◌-◌, ◌/◌, ◌%◌, ◌≤◌, Bool, true, false, ◌&&◌, ◌||◌, ◌==◌, nat_lt, List, [], ◌∷◌, ◌++◌, length, reverse, take, drop, get_or, bytes_eq, is_some, Option, None, Some, unwrap_or, codes, if◌then◌else◌}
use Rattle.std.specs.List.{position}
use Rattle.std.specs.Option.{option_or}
use Rattle.line_list.specs.declared.Span.{Span}
use Rattle.hunk_core.specs.declared.Form.{Form}
use Rattle.hunk_core.specs.declared.Form.TheVariants.{Unified, Context, Normal, Ed}
use Rattle.patch_header.specs.GitHeaders.{starts, is_git_line, is_extended, extended_run, has_line, action_of}
use Rattle.patch_header.specs.Region.{Row, row, rows, tail_of, first_some, last_tail, later}
use Rattle.read_header_record.specs.Quoted.{begins_quoted}
use Rattle.patch_header.specs.Values.{blanks, length_or, word_length, span_at, bytes_of}
use Rattle.patch_header.specs.declared.git_names.Pair.{Pair}
use Rattle.patch_header.specs.declared.region.Tail.{Tail}
use Rattle.patch_header.specs.declared.region.LastHeaderLines.{LastHeaderLines}
use Rattle.patch_header.specs.declared.read_options.ReadOptions.{ReadOptions}
use Rattle.read_header_record.specs.declared.Action.{Action}
use Rattle.read_header_record.specs.declared.Action.TheVariants.{Plain, New, Deleted, Rename, Copy}
use Rattle.patch_header.specs.declared.git_lines.GitLines.{GitLines}

-- the bytes of lines alone
abbrev pub lines_of : List Row → List (List ℕ)
lines_of [] = []
lines_of (r ∷ rs) = r.line ∷ lines_of rs

-- what a line says of the old file's mode, and of the new file's
abbrev pub old_mode_of : Row → Option Tail
old_mode_of r = later (tail_of (codes "old mode ") r) (tail_of (codes "deleted file mode ") r)

abbrev pub new_mode_of : Row → Option Tail
new_mode_of r = later (tail_of (codes "new mode ") r) (tail_of (codes "new file mode ") r)

-- what the last line says that speaks of it
abbrev pub old_mode_in : List Row → Option Tail
old_mode_in rs = first_some old_mode_of (reverse rs)

abbrev pub new_mode_in : List Row → Option Tail
new_mode_in rs = first_some new_mode_of (reverse rs)

-- of these extended lines: whether there is one of a kind, or the last of a kind
abbrev pub git_lines_in : List Row → GitLines
git_lines_in rs = record {
  is_new = has_line (codes "new file mode ") (lines_of rs);
  is_deleted = has_line (codes "deleted file mode ") (lines_of rs);
  rename_from = last_tail (codes "rename from ") rs;
  rename_to = last_tail (codes "rename to ") rs;
  copy_from = last_tail (codes "copy from ") rs;
  copy_to = last_tail (codes "copy to ") rs;
  old_mode = old_mode_in rs;
  new_mode = new_mode_in rs;
}

-- ---- names

-- all up to the end of the line; no byte is none
abbrev pub whole_in : Option Tail → Option Span
whole_in None = None
whole_in (Some t) = span_at t.start (t.end - t.start)

abbrev pub from_by : Action → List Row → Option Span
from_by Plain rs = None
from_by New rs = None
from_by Deleted rs = None
from_by Rename rs = whole_in (last_tail (codes "rename from ") rs)
from_by Copy rs = whole_in (last_tail (codes "copy from ") rs)

abbrev pub to_by : Action → List Row → Option Span
to_by Plain rs = None
to_by New rs = None
to_by Deleted rs = None
to_by Rename rs = whole_in (last_tail (codes "rename to ") rs)
to_by Copy rs = whole_in (last_tail (codes "copy to ") rs)

-- the name that these extended lines rename or copy a file from, and the name to
abbrev pub from_in : List Row → Option Span
from_in rs = from_by (action_of (lines_of rs)) rs

abbrev pub to_in : List Row → Option Span
to_in rs = to_by (action_of (lines_of rs)) rs

-- how long each half is, beside the middle byte
abbrev pub half : List ℕ → ℕ
half bytes = length bytes / 2

-- both have a slash, at these places, and are equal behind it, or neither has one and they are equal
abbrev pub same_behind : List ℕ → Option ℕ → List ℕ → Option ℕ → Bool
same_behind old None new None = bytes_eq old new
same_behind old None new (Some l) = false
same_behind old (Some k) new None = false
same_behind old (Some k) new (Some l) = bytes_eq (drop (k + 1) old) (drop (l + 1) new)

-- both are equal behind their first slash, or without one
abbrev pub are_alike : List ℕ → List ℕ → Bool
are_alike old new = same_behind old (position (λ b. b == 47) old) new (position (λ b. b == 47) new)

-- two names stand beside a space in the middle
unfoldable pub has_halves : List ℕ → Bool
has_halves bytes = length bytes % 2 == 1 && (get_or bytes (half bytes) 0 == 32 && are_alike (take (half bytes) bytes) (drop (half bytes + 1) bytes))

-- the names beside the space in the middle
abbrev pub halves : List ℕ → Option Pair
halves bytes = if has_halves bytes then Some (record { old = half bytes; start = half bytes + 1; new = half bytes }) else None

-- a name in quotes, or a word
abbrev pub quoted_or_word : List ℕ → ℕ
quoted_or_word bytes = length_or (word_length bytes) bytes

-- where the second of two words begins
abbrev pub second : List ℕ → ℕ
second bytes = quoted_or_word bytes + blanks (drop (quoted_or_word bytes) bytes)

-- one of the two words begins with a quote
abbrev pub has_quotes : List ℕ → Bool
has_quotes bytes = begins_quoted bytes || begins_quoted (drop (second bytes) bytes)

-- where the second word ends that begins at this place
abbrev pub second_end : List ℕ → ℕ → ℕ
second_end bytes start = start + quoted_or_word (drop start bytes)

-- there are blanks between both words, and behind the second nothing else
abbrev pub are_two : List ℕ → ℕ → Bool
are_two bytes start = nat_lt (quoted_or_word bytes) start && second_end bytes start + blanks (drop (second_end bytes start) bytes) == length bytes

-- two words, the second from this place on
abbrev pub two_words : List ℕ → ℕ → Option Pair
two_words bytes start = if are_two bytes start
    then Some (record { old = quoted_or_word bytes; start = start; new = quoted_or_word (drop start bytes) }) else None

-- both lie within the bytes
pub record FitsIn (bytes : List ℕ) (p : Pair) : Type 0 where
  pub old : p.old ≤ length bytes
  pub new : p.start + p.new ≤ length bytes

-- both names: two words where one has quotes, else the halves beside the middle byte
abbrev pub both_names : List ℕ → Option Pair
both_names bytes = if has_quotes bytes then two_words bytes (second bytes) else halves bytes

abbrev pub old_of : Tail → Option Pair → Option Span
old_of t None = None
old_of t (Some p) = span_at t.start p.old

abbrev pub new_of : Tail → Option Pair → Option Span
new_of t None = None
new_of t (Some p) = span_at (t.start + p.start) p.new

-- the old and the new name of a git line, by what stands behind `diff --git `
abbrev pub old_half : List ℕ → Option Tail → Option Span
old_half text None = None
old_half text (Some t) = old_of t (both_names (bytes_of text t))

abbrev pub new_half : List ℕ → Option Tail → Option Span
new_half text None = None
new_half text (Some t) = new_of t (both_names (bytes_of text t))

-- the new name, as what stands in a line of its own
abbrev pub name_tail : Tail → Option Pair → Option Tail
name_tail t None = None
name_tail t (Some p) = Some (record { number = t.number; start = t.start + p.start; end = t.start + p.start + p.new })

abbrev pub git_name : List ℕ → Option Tail → Option Tail
git_name text None = None
git_name text (Some t) = name_tail t (both_names (bytes_of text t))

-- ---- a git header that begins lines, the first with this number and at this place

-- what stands in the git line behind its beginning
abbrev pub git_rest : ℕ → ℕ → List (List ℕ) → Option Tail
git_rest number start [] = None
git_rest number start (line ∷ rest) = tail_of (codes "diff --git ") (row number start line)

-- its extended lines
abbrev pub extended_rows : ℕ → ℕ → List (List ℕ) → List Row
extended_rows number start [] = []
extended_rows number start (line ∷ rest) = rows (number + 1) (start + length line) (extended_run rest)

-- ---- a git header that ends lines, the last of which comes first

-- one more line
abbrev pub with_row : Option (List Row) → Row → Option (List Row)
with_row None r = None
with_row (Some rs) r = Some (rs ++ r ∷ [])

-- the extended lines of a git header that ends here
unfoldable pub header_back : List Row → Option (List Row)
header_back [] = None
header_back (r ∷ back) = if is_git_line r.line then Some [] else if is_extended r.line then with_row (header_back back) r else None

-- those of one that ends in front of a line of the old name
unfoldable pub old_name_back : List Row → Option (List Row)
old_name_back [] = None
old_name_back (r ∷ back) = if starts (codes "--- ") r.line then header_back back else None

-- those of one that ends in front of lines of both names
unfoldable pub new_name_back : List Row → Option (List Row)
new_name_back [] = None
new_name_back (r ∷ back) = if starts (codes "+++ ") r.line then old_name_back back else None

-- the extended lines of the git header behind which these lines end with those of both names, or with which they end; none where there is no such header
abbrev pub led_rows : List Row → List Row
led_rows rs = unwrap_or (option_or (new_name_back (reverse rs)) (header_back (reverse rs))) []

-- these lines end with a git header
abbrev pub ends_with_git : List Row → Bool
ends_with_git rs = is_some (header_back (reverse rs))

abbrev pub is_unified : Form → Bool
is_unified Unified = true
is_unified Context = false
is_unified Normal = false
is_unified Ed = false

-- the extended lines that count for an opening of a form behind these lines
abbrev pub led_by : ReadOptions → Form → List Row → List Row
led_by ways form rs = if ways.git && is_unified form then led_rows rs else []

-- a git header stands directly in front of an opening behind these lines, and leads it
abbrev pub led_directly : ReadOptions → Form → List Row → Bool
led_directly ways form rs = (ways.git && is_unified form) && ends_with_git rs

-- what names the file: where a git header stands directly in front, its git line alone, as an `Index:` line would
abbrev pub seen_by : List ℕ → Bool → LastHeaderLines → LastHeaderLines
seen_by text direct s = if direct then record { minus = None; plus = None; stars = None; index = git_name text s.git; prereq = s.prereq; git = s.git } else s
