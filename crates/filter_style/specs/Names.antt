-- The names of header lines and of the `diff` line, as they are written (manual page of `filterdiff`: --strip, --addprefix, --addoldprefix,
-- --addnewprefix, --remove-timestamps).
use Rattle.std.specs.Prelude.{ℕ, ◌==◌, nat_eq, Bool, false, not, ◌&&◌, ◌||◌, List, [], ◌∷◌, ◌++◌, drop, take, codes, bytes_eq, unwrap_or, if◌then◌else◌}
use Rattle.std.specs.List.{slice_split, starts_with}
use Rattle.read_file_patch.specs.Stripped.{shortened}
use Rattle.patch_header.specs.Values.{first, is_white}
use Rattle.cli_tool_words.specs.PlainJobs.{PlainStyle}
use Rattle.filter_style.specs.declared.names.NextName.{NextName}
use Rattle.filter_style.specs.declared.names.NextName.TheVariants.{Old, New, Other}

abbrev pub begins : List ℕ → List ℕ → Bool
begins mark bytes = starts_with nat_eq bytes mark

-- ---- one name

-- `/dev/null` is no file
abbrev pub is_no_file : List ℕ → Bool
is_no_file name = bytes_eq (take (first is_white name) name) (codes "/dev/null")

-- the quote that git puts in front of a name, and the name behind it
abbrev pub quote_of : List ℕ → List ℕ
quote_of name = if begins (codes "\"") name then codes "\"" else []

abbrev pub unquoted : List ℕ → List ℕ
unquoted name = if begins (codes "\"") name then drop 1 name else name

-- a name without the front that has so many slashes, or its last component, behind a prefix
abbrev pub named : ℕ → List ℕ → List ℕ → List ℕ
named strip prefix name = if is_no_file name then name else quote_of name ++ (prefix ++ shortened strip (unquoted name))

-- what stands in front of the old name, of the new one, and of any other word
abbrev pub prefix_in : PlainStyle → NextName → List ℕ
prefix_in s Old = s.old_prefix
prefix_in s New = s.new_prefix
prefix_in s Other = []

-- ---- a header line

-- a name goes up to a tab or to the end of its line
abbrev pub ends_name : ℕ → Bool
ends_name b = b == 9 || b == 10

-- the name behind the mark, and the rest or, where stamps are left out, the end of the line
abbrev pub tail_line : PlainStyle → List ℕ → List ℕ → List ℕ
tail_line s prefix tail = named s.strip prefix (take (first ends_name tail) tail) ++ (if s.no_stamps then 10 ∷ [] else drop (first ends_name tail) tail)

-- one prefix for both names counts more than each one's own
abbrev pub header_line : PlainStyle → NextName → List ℕ → List ℕ
header_line s turn line = take 4 line ++ tail_line s (unwrap_or s.prefix (prefix_in s turn)) (drop 4 line)

-- ---- the `diff` line, whose words stand between blanks

-- a word that is no option and has a byte
abbrev pub is_name : List ℕ → Bool
is_name [] = false
is_name (b ∷ bs) = not (b == 45) && not (is_white b)

-- the first name is the old one, and the next the new one
abbrev pub next_turn : NextName → NextName
next_turn Old = New
next_turn New = Other
next_turn Other = Other

abbrev pub word_at : PlainStyle → NextName → List ℕ → List ℕ
word_at s turn w = if is_name w then named s.strip (prefix_in s turn) w else w

abbrev pub turn_behind : NextName → List ℕ → NextName
turn_behind turn w = if is_name w then next_turn turn else turn

abbrev pub is_blank : ℕ → Bool
is_blank b = b == 32

-- words, each behind a blank
abbrev pub words : PlainStyle → NextName → List (List ℕ) → List ℕ
words s turn [] = []
words s turn (w ∷ ws) = (codes " " ++ word_at s turn w) ++ words s (turn_behind turn w) ws

-- `diff` itself stays
abbrev pub diff_line : PlainStyle → List ℕ → List ℕ
diff_line s line = take 4 line ++ words s Old (slice_split is_blank (drop 5 line))
