-- Why switches and values have words refused.
use Rattle.std.proofs.Common.{◌≡◌, ◌⊎◌, ◌∙◌, ◌&&◌, ◌++◌, not, Bool, true, false, ℕ, List, bytes_eq, Result, Ok, Err, IfOk, IfErr, Option, Some, None, codes, option_map, option_and_then, ap, refl, sym, inl, inr}
use Rattle.clap.specs.Words.{Row, Text}
use Rattle.std.specs.Borrow.{Bor}
use Rattle.outside.specs.Files.{is_temp}
use Rattle.outside.specs.Names.{given_form}
use Rattle.patch_options.specs.Forms.{is_name, is_reject_file, is_prefix, is_base_prefix, is_directory, is_lasting_name, is_patch_file}
use Rattle.patch_options.specs.Table.{value_of, text_of, has_form, is_no_file, reject_of, first_given, inputs_agree, switches_agree, values_agree, names_agree, outputs_agree, is_command}
use Rattle.patch_options.specs.declared.options.WordFault.{WordFault}
use Rattle.patch_options.specs.declared.options.WordFault.TheVariants.{Usage, Memory}

pub no_left : (a b : Bool) → a ≡ false → (a && b) ≡ false
no_left a b none = ap (λ t. t && b) none

pub no_right : (a b : Bool) → b ≡ false → (a && b) ≡ false
no_right true b none = none
no_right false b none = refl

pub all_yes : (a b : Bool) → a ≡ true → b ≡ true → (a && b) ≡ true
all_yes a b holds more = ap (λ t. t && b) holds ∙ more

-- ---- faults

pub refused_as : (fault : WordFault) (a b : Bool) → (a ≡ false → b ≡ false) → (fault ≡ Memory) ⊎ ((fault ≡ Usage) × (a ≡ false)) → (fault ≡ Memory) ⊎ ((fault ≡ Usage) × (b ≡ false))
refused_as fault a b none (inl memory) = inl memory
refused_as fault a b none (inr usage) = inr (usage.0, none usage.1)

has_value : (form : Text → Bool) (value : Option Text) {given : Option Text} {is : Bool} → given ≡ value → has_form form given ≡ is → has_form form value ≡ is
has_value form value same is = ap (has_form form) (sym same) ∙ is

inputs_same : {input operand other another : Option Text} {is : Bool} → input ≡ other → operand ≡ another → inputs_agree input operand ≡ is → inputs_agree other another ≡ is
inputs_same {input} {operand} {other} {another} same_input same_operand is = ap (λ i. inputs_agree i another) (sym same_input) ∙ (ap (inputs_agree input) (sym same_operand) ∙ is)

-- ---- the patch file, given by one name, or by two

and_yes : (a : Bool) → a ≡ (a && true)
and_yes true = refl
and_yes false = refl

module _ (input operand : Option (Bor Text)) where
  pub input_alone : (text : Bor Text) → input ≡ Some text → operand ≡ None → (Some text.now ≡ first_given (text_of input) (text_of operand)) × (is_patch_file text.now ≡ inputs_agree (text_of input) (text_of operand))
  input_alone text is none = rw (is, none) (refl, and_yes (is_patch_file text.now))

  pub operand_alone : (text : Bor Text) → input ≡ None → operand ≡ Some text → (Some text.now ≡ first_given (text_of input) (text_of operand)) × (is_patch_file text.now ≡ inputs_agree (text_of input) (text_of operand))
  operand_alone text none is = rw (none, is) (refl, refl)

  pub both_given : (one other : Bor Text) → input ≡ Some one → operand ≡ Some other → inputs_agree (text_of input) (text_of operand) ≡ false
  both_given one other is also = rw (is, also) refl

-- ---- a temporary's name

pub temp_refused : (text name : List ℕ) → name ≡ given_form text → is_temp name ≡ true → is_lasting_name text ≡ false
unfolding is_lasting_name
temp_refused text name is temp = no_right (is_name text) _ (ap (λ n. not (is_temp n)) (sym is) ∙ ap not temp)

-- ---- what may stand before a name, by a sample of one

module _ (text sample : List ℕ) (is : sample ≡ text ++ codes "x") where
  pub prefix_told : (r : Result Bool WordFault) → IfOk r (λ b. b ≡ bytes_eq (given_form sample) sample) → IfOk r (λ b. is_name sample ≡ true) → IfOk r (λ b. b ≡ is_prefix text)
  unfolding is_prefix
  prefix_told (Ok b) normal lawful = normal ∙ (ap (λ t. t && bytes_eq (given_form sample) sample) (sym lawful) ∙ ap (λ s. is_name s && bytes_eq (given_form s) s) is)
  prefix_told (Err fault) normal lawful = tt

  pub no_prefix : (r : Result Bool WordFault) → IfErr r (λ fault. (fault ≡ Memory) ⊎ ((fault ≡ Usage) × (is_name sample ≡ false))) → IfErr r (λ fault. (fault ≡ Memory) ⊎ ((fault ≡ Usage) × (is_prefix text ≡ false)))
  unfolding is_prefix
  no_prefix (Ok b) why = tt
  no_prefix (Err fault) why = refused_as fault _ _ (λ none. no_left _ _ (ap is_name (sym is) ∙ none)) why

-- ---- `-` in place of a name that is written

pub reject_dash : (value : Option Text) → is_no_file value ≡ true → (None ≡ option_and_then reject_of value) × (has_form is_reject_file value ≡ true)
unfolding is_reject_file
reject_dash None is = (refl, refl)
reject_dash (Some text) is = (rw is refl, rw is refl)

pub reject_name : (value : Option Text) → is_no_file value ≡ false
    → (option_map given_form value ≡ option_and_then reject_of value) × (has_form is_lasting_name value ≡ has_form is_reject_file value)
unfolding is_reject_file
reject_name None none = (refl, refl)
reject_name (Some text) none = (rw none refl, rw none refl)

-- ---- names that are written

module _ (rows : List Row) (fault : WordFault) (given : Option Text) where
  pub output_refused : given ≡ value_of rows (codes "output") → (fault ≡ Memory) ⊎ ((fault ≡ Usage) × (has_form is_lasting_name given ≡ false)) → (fault ≡ Memory) ⊎ ((fault ≡ Usage) × (outputs_agree rows ≡ false))
  unfolding outputs_agree
  output_refused same = refused_as fault _ _ (λ none. no_left _ _ (has_value is_lasting_name _ same none))

  pub reject_refused : given ≡ value_of rows (codes "reject-file") → (fault ≡ Memory) ⊎ ((fault ≡ Usage) × (has_form is_reject_file given ≡ false)) → (fault ≡ Memory) ⊎ ((fault ≡ Usage) × (outputs_agree rows ≡ false))
  unfolding outputs_agree
  reject_refused same = refused_as fault _ _ (λ none. no_right _ _ (no_left _ _ (has_value is_reject_file _ same none)))

  pub prefix_refused : given ≡ value_of rows (codes "prefix") → (fault ≡ Memory) ⊎ ((fault ≡ Usage) × (has_form is_prefix given ≡ false)) → (fault ≡ Memory) ⊎ ((fault ≡ Usage) × (outputs_agree rows ≡ false))
  unfolding outputs_agree
  prefix_refused same = refused_as fault _ _ (λ none. no_right _ _ (no_right _ _ (no_left _ _ (has_value is_prefix _ same none))))

  pub base_prefix_refused : given ≡ value_of rows (codes "basename-prefix") → (fault ≡ Memory) ⊎ ((fault ≡ Usage) × (has_form is_base_prefix given ≡ false)) → (fault ≡ Memory) ⊎ ((fault ≡ Usage) × (outputs_agree rows ≡ false))
  unfolding outputs_agree
  base_prefix_refused same = refused_as fault _ _ (λ none. no_right (has_form is_lasting_name (value_of rows (codes "output"))) _
      (no_right (has_form is_reject_file (value_of rows (codes "reject-file"))) _ (no_right (has_form is_prefix (value_of rows (codes "prefix"))) _ (has_value is_base_prefix _ same none))))

pub outputs_lawful : (rows : List Row) {output reject prefix base_prefix : Option Text} → output ≡ value_of rows (codes "output") → has_form is_lasting_name output ≡ true → reject ≡ value_of rows (codes "reject-file") → has_form is_reject_file reject ≡ true
    → prefix ≡ value_of rows (codes "prefix") → has_form is_prefix prefix ≡ true → base_prefix ≡ value_of rows (codes "basename-prefix") → has_form is_base_prefix base_prefix ≡ true → outputs_agree rows ≡ true
unfolding outputs_agree
outputs_lawful rows same_output output same_reject reject same_prefix prefix same_base base =
    all_yes _ _ (has_value is_lasting_name _ same_output output)
    (all_yes _ _ (has_value is_reject_file _ same_reject reject) (all_yes _ _ (has_value is_prefix _ same_prefix prefix) (has_value is_base_prefix _ same_base base)))

-- ---- all names

module _ (rows : List Row) (fault : WordFault) where
  pub input_refused : {input operand : Option Text} → input ≡ value_of rows (codes "input") → operand ≡ value_of rows (codes "patchfile")
      → (fault ≡ Memory) ⊎ ((fault ≡ Usage) × (inputs_agree input operand ≡ false)) → (fault ≡ Memory) ⊎ ((fault ≡ Usage) × (names_agree rows ≡ false))
  input_refused same_input same_operand = refused_as fault _ _ (λ none. no_left _ _ (inputs_same same_input same_operand none))

  pub directory_refused : {given : Option Text} → given ≡ value_of rows (codes "directory") → (fault ≡ Memory) ⊎ ((fault ≡ Usage) × (has_form is_directory given ≡ false))
      → (fault ≡ Memory) ⊎ ((fault ≡ Usage) × (names_agree rows ≡ false))
  directory_refused same = refused_as fault _ _ (λ none. no_right _ _ (no_left _ _ (has_value is_directory _ same none)))

  pub file_refused : {given : Option Text} → given ≡ value_of rows (codes "file") → (fault ≡ Memory) ⊎ ((fault ≡ Usage) × (has_form is_lasting_name given ≡ false))
      → (fault ≡ Memory) ⊎ ((fault ≡ Usage) × (names_agree rows ≡ false))
  file_refused same = refused_as fault _ _ (λ none. no_right _ _ (no_right _ _ (no_left _ _ (has_value is_lasting_name _ same none))))

  pub outputs_refused : (fault ≡ Memory) ⊎ ((fault ≡ Usage) × (outputs_agree rows ≡ false)) → (fault ≡ Memory) ⊎ ((fault ≡ Usage) × (names_agree rows ≡ false))
  outputs_refused = refused_as fault _ _ (λ none. no_right (inputs_agree (value_of rows (codes "input")) (value_of rows (codes "patchfile"))) _
      (no_right (has_form is_directory (value_of rows (codes "directory"))) _ (no_right (has_form is_lasting_name (value_of rows (codes "file"))) (outputs_agree rows) none)))

pub names_lawful : (rows : List Row) {input operand dir file : Option Text} → input ≡ value_of rows (codes "input") → operand ≡ value_of rows (codes "patchfile") → inputs_agree input operand ≡ true
    → dir ≡ value_of rows (codes "directory") → has_form is_directory dir ≡ true → file ≡ value_of rows (codes "file") → has_form is_lasting_name file ≡ true → outputs_agree rows ≡ true → names_agree rows ≡ true
names_lawful rows same_input same_operand inputs same_dir dir same_file file outputs =
    all_yes _ _ (inputs_same same_input same_operand inputs) (all_yes _ _ (has_value is_directory _ same_dir dir) (all_yes _ _ (has_value is_lasting_name _ same_file file) outputs))

pub names_refused : (rows : List Row) (fault : WordFault) → (fault ≡ Memory) ⊎ ((fault ≡ Usage) × (names_agree rows ≡ false)) → (fault ≡ Memory) ⊎ ((fault ≡ Usage) × (is_command rows ≡ false))
names_refused rows fault = refused_as fault (names_agree rows) (is_command rows) (λ none. no_right (switches_agree rows) _ (no_right (values_agree rows) (names_agree rows) none))
