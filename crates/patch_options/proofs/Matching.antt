-- The command of `patch` is a simple one in which no argument has a rule on another, so that what it takes is an exact function of the words.
use Rattle.std.proofs.Common.{◌≡◌, ◌⊎◌, ◌∙◌, List, true, false, ap, codes, refl, subst}
use Rattle.clap.specs.Words.{App, Row, Text, is_simple_and_free}
use Rattle.clap.proofs.OnLiterals.{clap_on_literals}
use Rattle.patch_options.specs.Groups.{patch_table}
use Rattle.patch_options.specs.Simple.{PlainWord, simple_command, takes, rows_by}
use Rattle.patch_options.specs.Words.{patch_command}
use Rattle.patch_options.specs.declared.options.WordFault.{WordFault}
use Rattle.patch_options.specs.declared.options.WordFault.TheVariants.{Usage, Memory}

command_is_free : is_simple_and_free patch_command ≡ true
unfolding clap_on_literals patch_command simple_command
command_is_free = refl

module _ (table : List PlainWord) (is : table ≡ patch_table) where
  command_is : simple_command (codes "patch") table ≡ patch_command
  unfolding patch_command
  command_is = ap (simple_command (codes "patch")) is

  pub is_free : is_simple_and_free (simple_command (codes "patch") table) ≡ true
  is_free = ap is_simple_and_free command_is ∙ command_is_free

  pub are_taken : (words : List Text) → takes (simple_command (codes "patch") table) words ≡ true → takes patch_command words ≡ true
  are_taken words taken = subst (λ (a : App). takes a words ≡ true) command_is taken

  pub rows_are : (words : List Text) (rows : List Row) → rows ≡ rows_by (simple_command (codes "patch") table) words → rows ≡ rows_by patch_command words
  rows_are words rows are = are ∙ ap (λ (a : App). rows_by a words) command_is

  pub why_refused : (words : List Text) (fault : WordFault) → (fault ≡ Memory) ⊎ ((fault ≡ Usage) × (takes (simple_command (codes "patch") table) words ≡ false))
      → (fault ≡ Memory) ⊎ ((fault ≡ Usage) × (takes patch_command words ≡ false))
  why_refused words fault refused = subst (λ (a : App). (fault ≡ Memory) ⊎ ((fault ≡ Usage) × (takes a words ≡ false))) command_is refused
