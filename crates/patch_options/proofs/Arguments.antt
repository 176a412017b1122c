-- The argument of `clap` that a row describes.
use Rattle.std.proofs.Common.{◌≡◌, ◌∙◌, ℕ, false, Option, Some, None, ap, sym}
use Rattle.std.specs.Borrow.{Bor}
use Rattle.clap.specs.Words.{Rule, Text, new_rule, rule_of}
use Rattle.clap.specs.declared.builder.action.ArgAction.{ArgAction}
use Rattle.clap.specs.declared.builder.action.ArgAction.TheVariants.{Count, Append}
use Rattle.clap.specs.declared.builder.arg.Arg.{Arg}
use Rattle.patch_options.specs.Simple.{plain_word, word_rule, with_form}
use Rattle.patch_options.specs.declared.simple.Word.{Word}
use Rattle.patch_options.specs.declared.simple.WordForm.{WordForm}
use Rattle.patch_options.specs.declared.simple.WordForm.TheVariants.{Switch, Letter, Value, Values, Operand}

abbrev pub with_letter : Text → Option ℕ → Rule
with_letter name letter = record (new_rule name) { short = letter }

pub letter_rule : (name : Text) (given : Option ℕ) (letter : ℕ) (plain arg : Arg) → given ≡ Some letter → rule_of plain ≡ new_rule name → arg ≡ record plain { short = Some letter }
    → rule_of arg ≡ with_letter name given
letter_rule name given letter plain arg some rule is = ap rule_of is ∙ (ap (λ (r : Rule). record r { short = Some letter }) rule ∙ ap (with_letter name) (sym some))

pub no_letter_rule : (name : Text) (given : Option ℕ) (arg : Arg) → given ≡ None → rule_of arg ≡ new_rule name → rule_of arg ≡ with_letter name given
no_letter_rule name given arg none rule = rule ∙ ap (with_letter name) (sym none)

module _ (w : Word) (plain : Arg) (rule : rule_of plain ≡ with_letter w.name.now w.letter) where
  as_form : (form : WordForm) (arg : Arg) → w.form ≡ form → rule_of arg ≡ with_form form w.name.now (rule_of plain) → rule_of arg ≡ word_rule (plain_word w)
  as_form form arg is made = made ∙ (ap (with_form form w.name.now) rule ∙ ap (λ (f : WordForm). with_form f w.name.now (with_letter w.name.now w.letter)) (sym is))

  pub switch_rule : (named arg : Arg) → w.form ≡ Switch → named ≡ record plain { long = Some w.name } → arg ≡ record named { action = Some Count } → rule_of arg ≡ word_rule (plain_word w)
  switch_rule named arg is long counts = as_form Switch arg is (ap rule_of (counts ∙ ap (λ (a : Arg). record a { action = Some Count }) long))

  pub counted_rule : (arg : Arg) → w.form ≡ Letter → arg ≡ record plain { action = Some Count } → rule_of arg ≡ word_rule (plain_word w)
  counted_rule arg is counts = as_form Letter arg is (ap rule_of counts)

  pub value_rule : (arg : Arg) → w.form ≡ Value → arg ≡ record plain { long = Some w.name } → rule_of arg ≡ word_rule (plain_word w)
  value_rule arg is long = as_form Value arg is (ap rule_of long)

  pub values_rule : (named arg : Arg) → w.form ≡ Values → named ≡ record plain { long = Some w.name } → arg ≡ record named { action = Some Append } → rule_of arg ≡ word_rule (plain_word w)
  values_rule named arg is long appends = as_form Values arg is (ap rule_of (appends ∙ ap (λ (a : Arg). record a { action = Some Append }) long))

  pub operand_rule : w.form ≡ Operand → rule_of plain ≡ word_rule (plain_word w)
  operand_rule is = rule ∙ ap (λ (f : WordForm). with_form f w.name.now (with_letter w.name.now w.letter)) (sym is)

module _ (plain arg : Arg) where
  pub short_local : (letter : ℕ) → arg ≡ record plain { short = Some letter } → plain.global ≡ false → arg.global ≡ false
  short_local letter is local = ap (λ (a : Arg). a.global) is ∙ local

  pub long_local : (name : Bor Text) → arg ≡ record plain { long = Some name } → plain.global ≡ false → arg.global ≡ false
  long_local name is local = ap (λ (a : Arg). a.global) is ∙ local

  pub action_local : (action : ArgAction) → arg ≡ record plain { action = Some action } → plain.global ≡ false → arg.global ≡ false
  action_local action is local = ap (λ (a : Arg). a.global) is ∙ local
