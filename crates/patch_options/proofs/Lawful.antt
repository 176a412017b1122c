-- What a command asks for is lawful.
use Rattle.std.proofs.Common.{◌≡◌, ◌&&◌, ◌<◌, ◌≤◌, ◌++◌, Bool, true, false, not, List, [], ◌∷◌, ℕ, Option, Some, None, codes, refl, ap, subst, arith, is_some, is_none, if◌then◌else◌, bytes_eq, length, option_and_then, unwrap_or, nat_le}
use Rattle.std.specs.List.{list_any}
use Rattle.std.specs.Option.{ForSome}
use Rattle.std.proofs.lemmas.Slice.Eq.{bytes_eq-Decides}
use Rattle.outside.specs.Names.{is_slash, is_control, broken_given, broken_rule, IsFront}
use Rattle.clap.specs.Words.{Row, Text}
use Rattle.hunk_core.specs.declared.Form.TheVariants.{Unified, Context}
use Rattle.patch_options.specs.Forms.{is_suffix, backup_numbers_of, is_prefix, is_base_prefix, is_name, is_lasting_name, is_reject_file, is_directory, is_empty, is_macro_name, buffer_of, buffer_in, usual_buffer, largest_buffer, number_of, reject_form_of}
use Rattle.patch_options.specs.PlainJob.{IsSuffix, HasContext, IsMacroName, IsLawful}
use Rattle.patch_options.specs.Table.{is_command, options_of, value_of, has_form, outputs_agree, switches_agree, values_agree, names_agree, numbers_agree, words_agree, others_agree, plan_in}
use Rattle.patch_options.specs.declared.options.PlanKind.{PlanKind}
use Rattle.patch_options.specs.declared.options.PlanKind.TheVariants.{Whole, Padded, Packed, Auto}

both : (a b : Bool) → (a && b) ≡ true → (a ≡ true) × (b ≡ true)
both true b h = (refl, h)
both false b h = cc

pub is_false : (b : Bool) → not b ≡ true → b ≡ false
is_false true h = cc
is_false false h = refl

some_byte : (text : List ℕ) → not (is_empty text) ≡ true → 0 < length text
some_byte [] h = cc
some_byte (b ∷ bs) h = omega arith

suffix_is : (text : List ℕ) → is_suffix text ≡ true → IsSuffix text
unfolding is_suffix
suffix_is text h =
    let some = both (not (is_empty text)) _ h in
    let slash = both (not (list_any is_slash text)) _ some.1 in
    let control = both (not (list_any is_control text)) _ slash.1 in
    record {
      some = some_byte text some.0;
      ending = record { no_slash = is_false _ slash.0; no_control = is_false _ control.0 };
      lasting = is_false _ control.1;
    }

none_of : {X : Type 0} (o : Option X) → is_none o ≡ true → o ≡ None
none_of None h = refl
none_of (Some x) h = cc

prefix_is : (text : List ℕ) → is_prefix text ≡ true → IsFront text
unfolding is_prefix is_name
prefix_is text h =
    let parts = both (is_none (broken_given (text ++ codes "x"))) _ h in
    record { lawful = none_of _ parts.0; normal = (bytes_eq-Decides _ _).0 parts.1 }

base_prefix_is : (text : List ℕ) → is_base_prefix text ≡ true → IsFront text
unfolding is_base_prefix
base_prefix_is text h = prefix_is text (both (is_prefix text) (is_none (broken_rule (text ++ codes "x"))) h).0

pub none_has : {X : Type 0} (P : X → Type 0) → ForSome None P
none_has P = λ x e. cc

pub some_has : {X : Type 0} (P : X → Type 0) (x : X) → P x → ForSome (Some x) P
some_has P x h = λ y e. subst P (ap (λ o. unwrap_or o x) e) h

-- a value that has a form
pub of_form : (form : Text → Bool) (P : Text → Type 0) (value : Option Text) → ((text : Text) → form text ≡ true → P text) → has_form form value ≡ true → ForSome value P
of_form form P None law h = none_has P
of_form form P (Some text) law h = some_has P text (law text h)

context_is : (text : Option Text) → ForSome (option_and_then reject_form_of text) HasContext
unfolding reject_form_of
context_is None = none_has HasContext
context_is (Some text) = go (bytes_eq text (codes "context")) (bytes_eq text (codes "unified"))
  where
    go : (a b : Bool) → ForSome (if a then Some Context else if b then Some Unified else None) HasContext
    go true b = some_has HasContext Context (record { not_normal = λ e. cc; not_ed = λ e. cc })
    go false true = some_has HasContext Unified (record { not_normal = λ e. cc; not_ed = λ e. cc })
    go false false = none_has HasContext

abbrev pub IsSize : PlanKind → ℕ → Type 0
IsSize plan n = (512 ≤ n) × (n ≤ largest_buffer plan)

-- what a command may give is no more than any plan has
given_is : (plan : PlanKind) (n : ℕ) → 512 ≤ n → n ≤ 1048576 → IsSize plan n
given_is Whole n least most = (least, most)
given_is Padded n least most = (least, most)
given_is Packed n least most = (least, most)
given_is Auto n least most = (least, omega arith)

size_in : (plan : PlanKind) (n : ℕ) → ForSome (buffer_in n) (IsSize plan)
size_in plan n = go (nat_le 512 n) (nat_le n 1048576) refl refl
  where
    go : (a b : Bool) → nat_le 512 n ≡ a → nat_le n 1048576 ≡ b → ForSome (if a && b then Some n else None) (IsSize plan)
    go true true least most = some_has (IsSize plan) n (given_is plan n (grind arith) (grind arith))
    go true false least most = none_has (IsSize plan)
    go false b least most = none_has (IsSize plan)

usual_is : (plan : PlanKind) → IsSize plan (usual_buffer plan)
usual_is Whole = (omega arith, omega arith)
usual_is Padded = (omega arith, omega arith)
usual_is Packed = (omega arith, omega arith)
usual_is Auto = (omega arith, omega arith)

pub size_of : (value : Option Text) (plan : PlanKind) → IsSize plan (unwrap_or (option_and_then buffer_of value) (usual_buffer plan))
unfolding buffer_of
size_of None plan = usual_is plan
size_of (Some text) plan = from_number (number_of text)
  where
    given : (o : Option ℕ) → ForSome o (IsSize plan) → IsSize plan (unwrap_or o (usual_buffer plan))
    given None h = usual_is plan
    given (Some n) h = h n refl

    from_number : (o : Option ℕ) → IsSize plan (unwrap_or (option_and_then buffer_in o) (usual_buffer plan))
    from_number None = usual_is plan
    from_number (Some n) = given (buffer_in n) (size_in plan n)

pub lawful_options : (rows : List Row) → is_command rows ≡ true → IsLawful (options_of rows)
unfolding outputs_agree
lawful_options rows h =
    let rest = both (switches_agree rows) (values_agree rows && names_agree rows) h in
    let parts = both (values_agree rows) (names_agree rows) rest.1 in
    let behind_numbers = both (numbers_agree rows) (words_agree rows && (others_agree rows && has_form is_macro_name (value_of rows (codes "ifdef")))) parts.0 in
    let words = both (words_agree rows) (others_agree rows && has_form is_macro_name (value_of rows (codes "ifdef"))) behind_numbers.1 in
    let others = both (others_agree rows) (has_form is_macro_name (value_of rows (codes "ifdef"))) words.1 in
    let behind_plan = both _ (has_form (λ t. is_some (reject_form_of t)) (value_of rows (codes "reject-format")) && (has_form is_suffix (value_of rows (codes "suffix")) && has_form (λ t. is_some (backup_numbers_of t)) (value_of rows (codes "version-control")))) words.0 in
    let behind_form = both _ (has_form is_suffix (value_of rows (codes "suffix")) && has_form (λ t. is_some (backup_numbers_of t)) (value_of rows (codes "version-control"))) behind_plan.1 in
    let suffix = both (has_form is_suffix (value_of rows (codes "suffix"))) (has_form (λ t. is_some (backup_numbers_of t)) (value_of rows (codes "version-control"))) behind_form.1 in
    let behind_input = both _ (has_form is_directory (value_of rows (codes "directory")) && (has_form is_lasting_name (value_of rows (codes "file")) && outputs_agree rows)) parts.1 in
    let behind_dir = both _ (has_form is_lasting_name (value_of rows (codes "file")) && outputs_agree rows) behind_input.1 in
    let outputs = both _ (outputs_agree rows) behind_dir.1 in
    let prefixes = has_form is_prefix (value_of rows (codes "prefix")) && has_form is_base_prefix (value_of rows (codes "basename-prefix")) in
    let behind_output = both _ (has_form is_reject_file (value_of rows (codes "reject-file")) && prefixes) outputs.1 in
    let behind_reject = both _ prefixes behind_output.1 in
    let prefix = both (has_form is_prefix (value_of rows (codes "prefix"))) (has_form is_base_prefix (value_of rows (codes "basename-prefix"))) behind_reject.1 in
    let size = size_of (value_of rows (codes "buffer")) (plan_in rows) in
    record {
      suffix = of_form is_suffix IsSuffix (value_of rows (codes "suffix")) suffix_is suffix.0;
      prefix = of_form is_prefix IsFront (value_of rows (codes "prefix")) prefix_is prefix.0;
      base_prefix = of_form is_base_prefix IsFront (value_of rows (codes "basename-prefix")) base_prefix_is prefix.1;
      reject_form = context_is (value_of rows (codes "reject-format"));
      define = of_form is_macro_name IsMacroName (value_of rows (codes "ifdef")) (λ text is. is) others.1;
      least = size.0;
      most = size.1;
    }
