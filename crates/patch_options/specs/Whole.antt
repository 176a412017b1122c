-- Long names that are cut short: a front of a long name stands for it, where no other begins so (the manual of GNU diffutils, 'patch
-- Options').
use Rattle.std.specs.Prelude.{◌≡◌, true, false, List, [], ◌∷◌, ◌++◌, Bool, ◌||◌, codes, flat_map, if◌then◌else◌, bytes_eq, Option, None, Some, unwrap_or}
use Rattle.std.specs.List.{filter, list_any}
use Rattle.clap.specs.Lexer.{long_of}
use Rattle.clap.specs.Words.{Text}
use Rattle.patch_options.specs.Forms.{is_front}
use Rattle.patch_options.specs.Simple.{PlainWord}
use Rattle.patch_options.specs.declared.simple.WordForm.{WordForm}
use Rattle.patch_options.specs.declared.simple.WordForm.TheVariants.{Switch, Letter, Value, Values, Operand}

abbrev pub long_by : WordForm → Text → List Text
long_by Switch name = name ∷ []
long_by Letter name = []
long_by Value name = name ∷ []
long_by Values name = name ∷ []
long_by Operand name = []

-- the long name of a row, where it has one
abbrev pub long_name : PlainWord → List Text
long_name w = long_by w.form w.name

-- the long names of a tool: the two that each tool has, and those of its table
unfoldable pub long_names : List PlainWord → List Text
long_names table = codes "help" ∷ codes "version" ∷ flat_map long_name table

-- the one element of a list that has no other
abbrev pub sole : List Text → Option Text
sole [] = None
sole (name ∷ []) = Some name
sole (name ∷ (other ∷ more)) = None

-- a name of the tool; or `strip`, which each filter of patchutils has beside `strip-match`, and so never stands for that
abbrev pub is_whole : List Text → Text → Bool
is_whole names text = list_any (λ name. bytes_eq name text) names || bytes_eq text (codes "strip")

-- the name that stands for a text: itself, if it is whole, or else the only one that begins so, if there is one
unfoldable pub whole_name : List Text → Text → Text
whole_name names text = if is_whole names text then text else unwrap_or (sole (filter (is_front text) names)) text

-- `--name` or `--name=value`; = 61
abbrev pub spelled : Text → Option Text → Text
spelled name None = codes "--" ++ name
spelled name (Some value) = codes "--" ++ (name ++ 61 ∷ value)

abbrev pub whole_by : List Text → Text → Option (Text × Option Text) → Text
whole_by names word None = word
whole_by names word (Some parts) = spelled (whole_name names parts.0) parts.1

-- a word with its long name whole
unfoldable pub whole_word : List Text → Text → Text
whole_word names word = whole_by names word (long_of word)

-- words in front of `--` with their long names whole, and then the others
abbrev pub whole_in : List Text → List Text → List Text
whole_in names [] = []
whole_in names (word ∷ words) = if bytes_eq word (codes "--") then word ∷ words else whole_word names word ∷ whole_in names words

-- the words with their long names whole
unfoldable pub whole_words : List PlainWord → List Text → List Text
whole_words table words = whole_in (long_names table) words

-- ---- words that are whole

-- a word has no long name, or one of these
abbrev pub HasWhole : List Text → Option (Text × Option Text) → Type 0
HasWhole names None = Unit {0}
HasWhole names (Some parts) = list_any (λ name. bytes_eq name parts.0) names ≡ true

-- so has each word in front of `--`
abbrev pub AreWhole : List Text → List Text → Type 0
AreWhole names [] = Unit {0}
AreWhole names (word ∷ words) = bytes_eq word (codes "--") ≡ false → HasWhole names (long_of word) × AreWhole names words
