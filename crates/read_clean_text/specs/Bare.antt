-- Lines without the carriage return that a patch text has in front of a line feed once it came by mail, or from a system that ends its lines so.
use Rattle.std.specs.Prelude.{ℕ, ◌-◌, Bool, nat_eq, List, [], ◌∷◌, ◌++◌, length, map, take, if◌then◌else◌}
use Rattle.std.specs.List.{ends_with, flat_map}
use Rattle.line_list.specs.Lines.{lines}

-- a carriage return and a line feed at the end
abbrev pub has_return : List ℕ → Bool
has_return line = ends_with nat_eq line (13 ∷ 10 ∷ [])

-- the line without that carriage return
abbrev pub bare_line : List ℕ → List ℕ
bare_line line = if has_return line then take (length line - 2) line ++ 10 ∷ [] else line

-- which lines of a text have one
abbrev pub returns_of : List ℕ → List Bool
returns_of text = map has_return (lines text)

-- the text without any: by this its file patches are found
unfoldable pub bare_text : List ℕ → List ℕ
bare_text text = flat_map bare_line (lines text)
