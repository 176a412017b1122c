-- How the parts of a text are named (manual page of `splitdiff`). Without -d and -D they are FILE.part001, FILE.part002 and so on. With -d
-- a part has the name of its first file patch, each slash of it a low line, and `.patch` behind it; -E leaves `.patch` out, and -D puts the
-- same names into a directory. A name that an earlier part has gets `.part` and the number of the part behind it, and so does that of the
-- file itself.
use Rattle.std.specs.Prelude.{ℕ, ◌-◌, ◌+◌, List, [], ◌∷◌, ◌++◌, codes, length, drop, map, replicate, Bool, true, false, not, ◌&&◌, ◌||◌, if◌then◌else◌, nat_eq, nat_le, nat_lt, bytes_eq, is_none, is_some, Option, None, Some}
use Rattle.std.specs.List.{list_all, range_with_len, starts_with}
use Rattle.line_list.specs.declared.Span.{Span}
use Rattle.num_text.specs.Numbers.{decimal, is_digit}
use Rattle.outside.specs.Files.{is_temp}
use Rattle.outside.specs.Names.{is_slash, broken_rule, normal_form, last_component, placed}
use Rattle.read_file_patch.specs.Numbered.{is_among}
use Rattle.read_file_patch.specs.Stripped.{shortened}
use Rattle.cli_tool_words.specs.PlainJobs.{PlainPartNames, PlainSplitJob}

-- ---- by the name of the text

-- a number in three digits, or in more where it has more
abbrev pub three_digits : ℕ → List ℕ
three_digits n = replicate (3 - length (decimal n)) 48 ++ decimal n

-- the name of the part with this number: the file's, `.part` and the number
unfoldable pub part_name : List ℕ → ℕ → List ℕ
part_name file n = file ++ (codes ".part" ++ three_digits n)

-- those of so many parts
abbrev pub numbered_names : List ℕ → ℕ → List (List ℕ)
numbered_names file count = map (part_name file) (range_with_len 1 count)

-- ---- by the names of file patches

-- a name with each slash a low line: it leads into no directory
abbrev pub flat : List ℕ → List ℕ
flat name = map (λ b. if is_slash b then 95 else b) name

-- it is a temporary's, or has more than 200 bytes: a system takes 255, of which numbers and the ending want some
abbrev pub is_unfit : List ℕ → Bool
is_unfit text = is_temp text || nat_lt 200 (length text)

-- a patch may give it as it stands as the name of a file, and it isn't unfit for a part's
abbrev pub is_usable : List ℕ → Bool
is_usable text = is_none (broken_rule text) && bytes_eq (normal_form text) text && not (is_unfit text)

-- what stands for a name that is stripped: it, or `unnamed` where it can't be a file's
unfoldable pub stem : ℕ → List ℕ → List ℕ
stem strip name = if is_usable (flat (shortened strip name)) then flat (shortened strip name) else codes "unnamed"

-- the name of the first of some file patches that begins at a place or behind it
unfoldable pub first_name : List (ℕ × List ℕ) → ℕ → List ℕ
first_name [] at = []
first_name (row ∷ rows) at = if nat_le at row.0 then row.1 else first_name rows at

-- what stands for the first file patch of a part
abbrev pub stem_at : ℕ → List (ℕ × List ℕ) → Span → List ℕ
stem_at strip rows span = stem strip (first_name rows span.start)

-- `.part` and digits, and no more
abbrev pub is_mark : List ℕ → Bool
is_mark text = starts_with nat_eq text (codes ".part") && list_all is_digit (drop 5 text)

-- it ends so
unfoldable pub ends_in_mark : List ℕ → Bool
ends_in_mark [] = false
ends_in_mark (b ∷ bs) = is_mark (b ∷ bs) || ends_in_mark bs

-- what follows: a number where the name is an earlier part's, or could be taken for one with a number
abbrev pub mark : Bool → ℕ → List ℕ
mark true n = codes ".part" ++ three_digits n
mark false n = []

abbrev pub needs_mark : List (List ℕ) → List ℕ → Bool
needs_mark earlier name = is_among earlier name || ends_in_mark name

-- and its ending
abbrev pub ending : Bool → List ℕ
ending true = []
ending false = codes ".patch"

-- in the directory, if there is one
abbrev pub within : Option (List ℕ) → List ℕ → List ℕ
within None name = name
within (Some directory) name = placed directory name

-- a part's name but for its directory
abbrev pub base : Bool → Bool → ℕ → List ℕ → List ℕ
base bare marked n name = (name ++ mark marked n) ++ ending bare

-- with a number more where it would be the last component of the name of the text's file, which is no part's
unfoldable pub own_base : List ℕ → Bool → Bool → ℕ → List ℕ → List ℕ
own_base file bare marked n name = if bytes_eq (base bare marked n name) (last_component file) then base bare true n (name ++ mark marked n) else base bare marked n name

unfoldable pub own_name : PlainSplitJob → Bool → ℕ → List ℕ → List ℕ
own_name j marked n name = within j.names.directory (own_base j.input j.names.bare marked n name)

-- the names of parts from this number on, behind those for which these stand
unfoldable pub own_names : PlainSplitJob → List (List ℕ) → ℕ → List (List ℕ) → List (List ℕ)
own_names j earlier n [] = []
own_names j earlier n (name ∷ others) = own_name j (needs_mark earlier name) n name ∷ own_names j (name ∷ earlier) (n + 1) others

-- ---- of a text

abbrev pub is_by_name : PlainPartNames → Bool
is_by_name names = names.by_name || is_some names.directory

-- the names of the parts, from the file patches of the text, each with where it begins and its name, and from where the parts lie
unfoldable pub part_names : PlainSplitJob → List (ℕ × List ℕ) → List Span → List (List ℕ)
part_names j rows spans = if is_by_name j.names then own_names j [] 1 (map (stem_at j.names.strip rows) spans) else numbered_names j.input (length spans)
