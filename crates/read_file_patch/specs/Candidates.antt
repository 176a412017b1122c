-- The names that a file patch can be meant for, by its header lines (POSIX, `patch`, "File Name Determination").
use Rattle.std.specs.Prelude.{ℕ, Bool, List, ◌++◌, codes, ◌&&◌, ◌||◌, if◌then◌else◌, bytes_eq, Option, None, Some, is_none, option_and_then}
use Rattle.std.specs.Option.{option_to_list}
use Rattle.outside.specs.Names.{broken_rule, normal_form}
use Rattle.read_header_record.specs.Quoted.{name_of}
use Rattle.read_file_patch.specs.Stripped.{stripped}

-- the name with this text, where the text breaks no rule of names
abbrev pub lawful_name : List ℕ → Option (List ℕ)
lawful_name text = if is_none (broken_rule text) then Some (normal_form text) else None

-- what is left of a name once it is stripped, where that is one
abbrev pub left_name : Option ℕ → List ℕ → Option (List ℕ)
left_name strip name = option_and_then lawful_name (stripped strip name)

-- the same of the name that a text in a header stands for
abbrev pub candidate : Option ℕ → List ℕ → Option (List ℕ)
candidate strip text = option_and_then (left_name strip) (name_of text)

-- the candidate of the index line, if there is one
abbrev pub index_names : Option ℕ → Option (List ℕ) → List (List ℕ)
index_names strip text = option_to_list (option_and_then (candidate strip) text)

-- the same of a header line; `/dev/null` stands for a file that isn't there
abbrev pub left_if_file : Option ℕ → List ℕ → Option (List ℕ)
left_if_file strip name = if bytes_eq name (codes "/dev/null") then None else left_name strip name

abbrev pub header_candidate : Option ℕ → List ℕ → Option (List ℕ)
header_candidate strip text = option_and_then (left_if_file strip) (name_of text)

abbrev pub header_names : Option ℕ → Option (List ℕ) → List (List ℕ)
header_names strip text = option_to_list (option_and_then (header_candidate strip) text)

-- the name of the index line, which counts with option --posix, and without it where neither header line gave a name. One
-- that says `/dev/null` gave a name; `Index: /dev/null` is a name as any other
abbrev pub index_beside : Bool → Option (List ℕ) → Option (List ℕ) → Option (List ℕ) → Option (List ℕ)
index_beside posix old new index = if posix || (is_none old && is_none new) then index else None

-- those of the old and the new header line and of the index line, in this order
abbrev pub candidates : Option ℕ → Option (List ℕ) → Option (List ℕ) → Option (List ℕ) → Bool → List (List ℕ)
candidates strip old new index posix = (header_names strip old ++ header_names strip new) ++ index_names strip (index_beside posix old new index)
