-- Which words behind a tool's name are FILEs: operands, but for a pattern that leads (Utility Syntax Guidelines of POSIX).
use Rattle.std.specs.Prelude.{ℕ, ◌+◌, ◌==◌, List, [], ◌∷◌, ◌++◌, length, codes, bytes_eq, Bool, true, false, not, ◌&&◌, if◌then◌else◌, Option, None, Some}
use Rattle.std.specs.List.{list_any, position}
use Rattle.clap.specs.Lexer.{strip_byte}
use Rattle.clap.specs.Words.{Text}
use Rattle.patch_options.specs.Forms.{is_empty}
use Rattle.patch_options.specs.Simple.{PlainWord}
use Rattle.patch_options.specs.declared.simple.WordForm.{WordForm}
use Rattle.patch_options.specs.declared.simple.WordForm.TheVariants as forms
use Rattle.cli_tool_words.specs.declared.operands.Next.{Next}
use Rattle.cli_tool_words.specs.declared.operands.Next.TheVariants as next

-- ---- options with values

abbrev pub takes_value : WordForm → Bool
takes_value forms.Switch = false
takes_value forms.Letter = false
takes_value forms.Value = true
takes_value forms.Values = true
takes_value forms.Operand = false

abbrev pub is_letter : ℕ → Option ℕ → Bool
is_letter byte None = false
is_letter byte (Some letter) = byte == letter

-- a row of an option with a value that has this letter, or this name
abbrev pub has_letter : ℕ → PlainWord → Bool
has_letter byte w = takes_value w.form && is_letter byte w.letter

abbrev pub has_name : Text → PlainWord → Bool
has_name name w = takes_value w.form && bytes_eq w.name name

abbrev pub is_last : ℕ → Option ℕ → Bool
is_last count None = false
is_last count (Some place) = place + 1 == count

-- the first of these letters that takes a value is the last of them
abbrev pub letters_want : List PlainWord → List ℕ → Bool
letters_want table letters = is_last (length letters) (position (λ byte. list_any (has_letter byte) table) letters)

-- what stands behind a hyphen: letters, or behind another one a name
abbrev pub wants_behind : List PlainWord → List ℕ → Option Text → Bool
wants_behind table letters None = letters_want table letters
wants_behind table letters (Some name) = list_any (has_name name) table

abbrev pub wants_by : List PlainWord → Option (List ℕ) → Bool
wants_by table None = false
wants_by table (Some rest) = wants_behind table rest (strip_byte 45 rest)

-- the value of the option is the next word
abbrev pub wants_value : List PlainWord → Text → Bool
wants_value table word = wants_by table (strip_byte 45 word)

-- ---- operands

-- behind its hyphen an option has something; a hyphen alone is an operand
abbrev pub is_option_by : Option (List ℕ) → Bool
is_option_by None = false
is_option_by (Some rest) = not (is_empty rest)

abbrev pub is_operand : Next → Text → Bool
is_operand next.Any word = not (is_option_by (strip_byte 45 word))
is_operand next.Value word = false
is_operand next.Operand word = true

-- what comes behind a word; behind `--` all words are operands
abbrev pub behind : List PlainWord → Next → Text → Next
behind table next.Any word = if bytes_eq word (codes "--") then next.Operand else if wants_value table word then next.Value else next.Any
behind table next.Value word = next.Any
behind table next.Operand word = next.Operand

-- a word is a FILE, where an operand leads or doesn't
abbrev pub is_file : Bool → Next → Text → Bool
is_file leads n word = is_operand n word && not leads

-- an operand still leads behind the word
abbrev pub still_leads : Bool → Next → Text → Bool
still_leads leads n word = leads && not (is_operand n word)

-- FILEs, or all words but these
abbrev pub is_kept : Bool → Bool → Bool
is_kept true file = file
is_kept false file = not file

abbrev pub word_if : Bool → Text → List Text
word_if kept word = if kept then word ∷ [] else []

-- those of the words that are FILEs, or all but these
abbrev pub kept_of : Bool → List PlainWord → Bool → Next → List Text → List Text
kept_of files table leads n [] = []
kept_of files table leads n (word ∷ words) = word_if (is_kept files (is_file leads n word)) word ++ kept_of files table (still_leads leads n word) (behind table n word) words
