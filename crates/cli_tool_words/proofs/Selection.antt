-- Whether words for the file patches that are meant are lawful, by what is known of each word.
use Rattle.std.proofs.Common.{◌≡◌, ◌⊎◌, ◌∙◌, ◌||◌, true, false, List, Option, ap, codes, is_some, option_map, refl, sym}
use Rattle.clap.specs.Words.{Row, Text}
use Rattle.patch_options.specs.Forms.{is_name}
use Rattle.patch_options.specs.Table.{value_of, has_form}
use Rattle.patch_options.proofs.Refusing.{refused_as, no_left, no_right}
use Rattle.cli_tool_words.specs.Selecting.{is_number, is_select, name_in, number_or_0, patterns, select_of}
use Rattle.cli_tool_words.specs.PlainJobs.{PlainSelect}
use Rattle.patch_options.specs.declared.options.WordFault.{WordFault}
use Rattle.patch_options.specs.declared.options.WordFault.TheVariants.{Usage, Memory}

pub select_is_lawful : (rows : List Row) → has_form is_number (value_of rows (codes "strip-match")) ≡ true → has_form is_name (value_of rows (codes "include-from-file")) ≡ true
    → has_form is_name (value_of rows (codes "exclude-from-file")) ≡ true → is_select rows ≡ true
unfolding is_select
select_is_lawful rows strip include exclude = rw (strip, include, exclude) refl

-- the file patches that are meant, field by field
pub selected : (rows : List Row) (s : PlainSelect) {given other : Option Text} → s.strip ≡ number_or_0 rows (codes "strip-match") → s.include ≡ patterns rows (codes "include") → s.exclude ≡ patterns rows (codes "exclude")
    → s.include_file ≡ option_map name_in given → given ≡ value_of rows (codes "include-from-file") → s.exclude_file ≡ option_map name_in other → other ≡ value_of rows (codes "exclude-from-file")
    → s.only_included ≡ (is_some (value_of rows (codes "include")) || is_some (value_of rows (codes "include-from-file"))) → s.skip_binary ≡ true → s ≡ select_of rows
unfolding select_of
selected rows s strip include exclude include_file given exclude_file other only_included skip_binary = λ i. record {
  strip = strip i;
  include = include i;
  exclude = exclude i;
  include_file = (include_file ∙ ap (λ t. option_map name_in t) given) i;
  exclude_file = (exclude_file ∙ ap (λ t. option_map name_in t) other) i;
  only_included = only_included i;
  skip_binary = skip_binary i;
}

pub strip_refused : (rows : List Row) → has_form is_number (value_of rows (codes "strip-match")) ≡ false → is_select rows ≡ false
unfolding is_select
strip_refused rows none = no_left _ _ none

module _ (rows : List Row) (fault : WordFault) {given : Option Text} where
  pub include_refused : given ≡ value_of rows (codes "include-from-file") → (fault ≡ Memory) ⊎ ((fault ≡ Usage) × (has_form is_name given ≡ false)) → (fault ≡ Memory) ⊎ ((fault ≡ Usage) × (is_select rows ≡ false))
  unfolding is_select
  include_refused same = refused_as fault _ _ (λ none. no_right _ _ (no_left _ _ (ap (has_form is_name) (sym same) ∙ none)))

  pub exclude_refused : given ≡ value_of rows (codes "exclude-from-file") → (fault ≡ Memory) ⊎ ((fault ≡ Usage) × (has_form is_name given ≡ false)) → (fault ≡ Memory) ⊎ ((fault ≡ Usage) × (is_select rows ≡ false))
  unfolding is_select
  exclude_refused same = refused_as fault _ _ (λ none. no_right _ _ (no_right _ _ (ap (has_form is_name) (sym same) ∙ none)))
