-- Simple commands: a table of words in groups, the command that it makes, and what `clap` takes and matches by it.
use Rattle.std.specs.Prelude.{ℕ, List, [], ◌∷◌, map, flat_map, Bool, true, false, Option, None, Some}
use Rattle.clap.specs.Words.{App, Row, Rule, Text, Kinds, new_app, new_rule, with_rule, fault_of, matches_of, all_of, rows_of, found_of}
use Rattle.clap.specs.declared.builder.action.ArgAction.TheVariants.{Count, Append}
use Rattle.clap.specs.declared.parser.matches.ArgMatches.{ArgMatches}
use Rattle.patch_options.specs.declared.simple.Group.{Group}
use Rattle.patch_options.specs.declared.simple.Word.{Word}
use Rattle.patch_options.specs.declared.simple.WordForm.{WordForm}
use Rattle.patch_options.specs.declared.simple.WordForm.TheVariants.{Switch, Letter, Value, Values, Operand}

-- a row of a table: how the word is given, its letter and its name
pub record PlainWord : Type 0 where
  pub form : WordForm
  pub letter : Option ℕ
  pub name : Text

abbrev pub a_word : WordForm → Option ℕ → Text → PlainWord
a_word form letter name = record { form = form; letter = letter; name = name }

-- a switch with a letter and a name
abbrev pub switch : ℕ → Text → PlainWord
switch letter name = a_word Switch (Some letter) name

-- a switch that has a name alone
abbrev pub long_switch : Text → PlainWord
long_switch name = a_word Switch None name

-- an option with a letter and a name, which takes a text
abbrev pub option : ℕ → Text → PlainWord
option letter name = a_word Value (Some letter) name

-- an option that has a name alone
abbrev pub named : Text → PlainWord
named name = a_word Value None name

abbrev pub operand : Text → PlainWord
operand name = a_word Operand None name

abbrev pub plain_word : Word → PlainWord
plain_word w = record { form = w.form; letter = w.letter; name = w.name.now }

-- the table: the groups one behind the other
abbrev pub plain_table : List Group → List PlainWord
plain_table groups = map plain_word (flat_map (λ g. g.words.now) groups)

abbrev pub with_form : WordForm → Text → Rule → Rule
with_form Switch name rule = record rule { long = Some name; action = Some Count }
with_form Letter name rule = record rule { action = Some Count }
with_form Value name rule = record rule { long = Some name }
with_form Values name rule = record rule { long = Some name; action = Some Append }
with_form Operand name rule = rule

-- the argument of `clap` that a row describes
abbrev pub word_rule : PlainWord → Rule
word_rule w = with_form w.form w.name (record (new_rule w.name) { short = w.letter })

-- a command with more arguments
abbrev pub with_rules : App → List Rule → App
with_rules app [] = app
with_rules app (rule ∷ rules) = with_rules (with_rule app rule) rules

-- without help and version flags
abbrev pub without_help : App → App
without_help app = record app { top = record app.top { disable_help_flag = true } }

-- with an option that is given again, its last value counts
abbrev pub with_last_values : App → App
with_last_values app = record app { top = record app.top { args_override_self = true } }

-- the command with these arguments
unfoldable pub simple_command : Text → List PlainWord → App
simple_command name table = with_rules (with_last_values (without_help (new_app name))) (map word_rule table)

abbrev pub is_empty : Kinds → Bool
is_empty [] = true
is_empty (k ∷ ks) = false

-- a command takes the words: `clap` finds no fault in them
unfoldable pub takes : App → List Text → Bool
takes command words = is_empty (fault_of command words)

-- what `clap` matches in the words, where the command takes them
unfoldable pub rows_by : App → List Text → List Row
rows_by command words = matches_of command words

-- the rows that were matched
abbrev pub rows_in : ArgMatches → List Row
rows_in m = rows_of (found_of m)

-- all values of an option in their order, where it was given
unfoldable pub values_of : List Row → Text → Option (List Text)
values_of rows name = all_of name rows
