-- Words that make one of three tools of another one, and those that give a file of patterns (manual pages of patchutils: --list, --filter,
-- --grep, and --file of `grepdiff`).
use Rattle.std.specs.Prelude.{ℕ, Bool, true, false, not, ◌&&◌, ◌||◌, List, [], ◌∷◌, ◌++◌, codes, bytes_eq, drop, if◌then◌else◌, Option, None, Some}
use Rattle.std.specs.List.{list_any, position}
use Rattle.std.specs.Option.{option_map_or}
use Rattle.clap.specs.Lexer.{strip_byte}
use Rattle.clap.specs.Words.{Text}
use Rattle.patch_options.specs.Forms.{is_front}
use Rattle.patch_options.specs.Simple.{PlainWord}
use Rattle.cli_tool_words.specs.Operands.{has_letter, word_if}
use Rattle.cli_tool_words.specs.Tools.{name_of, tool_named}
use Rattle.cli_tool_words.specs.declared.tools.Tool.{Tool}
use Rattle.cli_tool_words.specs.declared.tools.Tool.TheVariants.{Lsdiff, Filterdiff, Grepdiff, Splitdiff, Recountdiff, Patchgen, Reversediff, Patchstack}

-- behind `--` no word is an option
abbrev pub is_ended : Bool → Text → Bool
is_ended ended word = ended || bytes_eq word (codes "--")

-- ---- tools

-- a tool that can be another one of its kind
abbrev pub is_sieve : Tool → Bool
is_sieve Lsdiff = true
is_sieve Filterdiff = true
is_sieve Grepdiff = true
is_sieve Splitdiff = false
is_sieve Recountdiff = false
is_sieve Patchgen = false
is_sieve Reversediff = false
is_sieve Patchstack = false

-- a word that names a tool
unfoldable pub names_tool : Text → Bool
names_tool word = bytes_eq word (codes "--list") || (bytes_eq word (codes "--filter") || bytes_eq word (codes "--grep"))

-- the tool that such a word names, or the one so far
unfoldable pub tool_by : Tool → Text → Tool
tool_by tool word = if bytes_eq word (codes "--list") then Lsdiff
    else if bytes_eq word (codes "--filter") then Filterdiff
    else if bytes_eq word (codes "--grep") then Grepdiff
    else tool

-- the tool that the words behind the name of one make of it: the last word that names one counts
abbrev pub tool_asked : Bool → Tool → List Text → Tool
tool_asked ended tool [] = tool
tool_asked ended tool (word ∷ words) = tool_asked (is_ended ended word) (if is_ended ended word then tool else tool_by tool word) words

-- the words that don't name one
abbrev pub others_in : Bool → List Text → List Text
others_in ended [] = []
others_in ended (word ∷ words) = word_if (is_ended ended word || not (names_tool word)) word ++ others_in (is_ended ended word) words

abbrev pub retooled : Tool → List Text → List Text
retooled tool words = (name_of tool ∷ []) ++ others_in false words

abbrev pub asked_by : Tool → List Text → List Text → List Text
asked_by tool words rest = if is_sieve tool then retooled (tool_asked false tool rest) rest else words

-- the words with the name of the tool that they ask for in front
unfoldable pub asked_words : List Text → List Text
asked_words [] = []
asked_words (first ∷ rest) = option_map_or (λ tool. asked_by tool (first ∷ rest) rest) (tool_named first) (first ∷ rest)

-- ---- files of patterns

-- the first of these letters that takes a value is an f
abbrev pub leads_to_file : List PlainWord → List ℕ → Bool
leads_to_file table letters = option_map_or (λ n. is_front (codes "f") (drop n letters)) (position (λ byte. list_any (has_letter byte) table) letters) false

-- a name alone, or with a value behind it
abbrev pub is_file_name : Text → Bool
is_file_name name = bytes_eq name (codes "file") || is_front (codes "file=") name

-- what stands behind a hyphen: letters, or behind another one a name
abbrev pub gives_file_behind : List PlainWord → List ℕ → Option Text → Bool
gives_file_behind table letters None = leads_to_file table letters
gives_file_behind table letters (Some name) = is_file_name name

abbrev pub gives_file_by : List PlainWord → Option (List ℕ) → Bool
gives_file_by table None = false
gives_file_by table (Some rest) = gives_file_behind table rest (strip_byte 45 rest)

abbrev pub gives_file : List PlainWord → Text → Bool
gives_file table word = gives_file_by table (strip_byte 45 word)

-- one of the words in front of `--` gives a file of patterns
abbrev pub give_file : List PlainWord → Bool → List Text → Bool
give_file table ended [] = false
give_file table ended (word ∷ words) = (not (is_ended ended word) && gives_file table word) || give_file table (is_ended ended word) words
