-- Words to which the program answers with what it tells of itself, where it would else carry them out.
use Rattle.std.specs.Prelude.{List, [], ◌∷◌, codes, bytes_eq, Bool, true, false, not, ◌&&◌, ◌||◌}
use Rattle.std.specs.Option.{option_map_or}
use Rattle.clap.specs.Words.{Text}
use Rattle.patch_options.specs.Groups.{patch_table}
use Rattle.patch_options.specs.Simple.{PlainWord}
use Rattle.patch_options.specs.Whole.{whole_words}
use Rattle.cli_tool_words.specs.Tools.{table_of, tool_named}

-- a word that asks for the words of a tool or for its version; `patch` has a letter for that, too
abbrev pub is_asking : Text → Text → Bool
is_asking tool word = (bytes_eq word (codes "--help") || bytes_eq word (codes "--version")) || (bytes_eq word (codes "-v") && bytes_eq tool (codes "patch"))

-- one of the words in front of `--` does
abbrev pub asks : Text → List Text → Bool
asks tool [] = false
asks tool (word ∷ words) = is_asking tool word || (not (bytes_eq word (codes "--")) && asks tool words)

-- the table of the tool that a word names; all other words are read as those of `patch`
abbrev pub table_by : Text → List PlainWord
table_by word = option_map_or table_of (tool_named word) patch_table

-- no words, or such as ask, whole or cut short; the first names the tool
unfoldable pub is_told : List Text → Bool
is_told [] = true
is_told (first ∷ rest) = asks first (whole_words (table_by first) (first ∷ rest))
