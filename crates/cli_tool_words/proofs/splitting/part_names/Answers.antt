use Rattle.std.proofs.Common.{◌∙◌, Option, ap, inr, option_map, refl, sym}
use Rattle.clap.specs.Words.{Text}
use Rattle.patch_options.specs.Forms.{is_name}
use Rattle.patch_options.specs.Table.{has_form}
use Rattle.patch_options.proofs.Refusing.{refused_as, no_left, no_right, all_yes}
use Rattle.cli_tool_words.specs.Selecting.{is_number, name_in}
use Rattle.cli_tool_words.proofs.splitting.part_names.Goals as goal

pub returns-then-not-is_number : goal.returns-then-not-is_number
returns-then-not-is_number c = record {
  names = tt;
  lawful = tt;
  refused = inr (refl, no_left _ _ (ap (has_form is_number) (sym c.value_of.ensures) ∙ (sym c.is_number.ensures ∙ c.if-not-is_number.true)));
}

pub returns-in-Err : goal.returns-in-Err
returns-in-Err c = record {
  names = tt;
  lawful = tt;
  refused = refused_as c.in-Err.fault _ _ (λ none. no_right _ _ (ap (has_form is_name) (sym c.value_of-2.ensures) ∙ none)) c.in-Err.ensures.refused;
}

pub returns-in-Ok : goal.returns-in-Ok
returns-in-Ok c = record {
  names = λ i. record {
    by_name = c.is_used.ensures i;
    directory = (c.in-Ok.ensures.name ∙ ap (λ (text : Option Text). option_map name_in text) c.value_of-2.ensures) i;
    bare = c.is_used-in-Ok.ensures i;
    strip = c.number_or_0.ensures i;
  };
  lawful = all_yes _ _ (ap (has_form is_number) (sym c.value_of.ensures) ∙ (sym c.is_number.ensures ∙ c.if-not-is_number.false)) (ap (has_form is_name) (sym c.value_of-2.ensures) ∙ c.in-Ok.ensures.lawful);
  refused = tt;
}
