-- Words that are given again, over what `clap` matches word by word.
use Rattle.std.specs.Prelude.{◌≡◌, ℕ, List, [], ◌∷◌, false}
use Rattle.clap.specs.Simple.{filled, with_index}
use Rattle.clap.specs.Walk.{has_row, used, without}
use Rattle.clap.specs.Words.{Row, Rule, Text}
use Rattle.patch_options.specs.Simple.{PlainWord, word_rule}

-- the argument of a row, at its place among the operands, as `clap` has it once the command is built
abbrev pub built_rule : ℕ → PlainWord → Rule
built_rule place w = with_index place (filled (word_rule w))

-- what was matched, with one more use of a word, which has a value or none
abbrev pub with_value : ℕ → PlainWord → Text → List Row → List Row
with_value place w value rows = used (built_rule place w) (value ∷ []) rows

abbrev pub with_switch : ℕ → PlainWord → List Row → List Row
with_switch place w rows = used (built_rule place w) [] rows

-- a name was matched in one row at most
abbrev pub HasOne : Text → List Row → Type 0
HasOne name rows = has_row name (without name rows) ≡ false
