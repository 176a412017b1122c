use Rattle.std.proofs.Common.{◌∙◌, Option, ap, inl, option_map, refl, sym}
use Rattle.clap.specs.Words.{Text}
use Rattle.clap.proofs.TakesLemmas.{passed_up}
use Rattle.outside.proofs.Exits.{if_ok_none}
use Rattle.patch_options.specs.Forms.{is_name}
use Rattle.patch_options.specs.Table.{has_form}
use Rattle.patch_options.proofs.Refusing.{refused_as}
use Rattle.cli_tool_words.specs.Selecting.{name_in}
use Rattle.cli_tool_words.proofs.searching.read_sought.Goals as goal

pub returns-in_err-file : goal.returns-in_err-file
returns-in_err-file c = record {
  pattern = if_ok_none _ _ c.from_residual.result c.from_residual.ensures.1;
  file = if_ok_none _ _ c.from_residual.result c.from_residual.ensures.1;
  lawful = if_ok_none _ _ c.from_residual.result c.from_residual.ensures.1;
  refused = (
      let fault = c.in_err-file.field-0.0 in
      passed_up c.from_residual.result fault _ c.from_residual.ensures.1 (refused_as fault _ _ (λ none. ap (has_form is_name) (sym c.value_of.ensures) ∙ none) c.in_err-file.ensures.refused));
}

pub returns-in-Err : goal.returns-in-Err
returns-in-Err c = record { pattern = tt; file = tt; lawful = tt; refused = inl refl }

pub returns-in-Ok : goal.returns-in-Ok
returns-in-Ok c = record {
  pattern = c.in-Ok.ensures.ok ∙ c.pattern_in.ensures;
  file = c.in_ok-file.ensures.name ∙ ap (λ (text : Option Text). option_map name_in text) c.value_of.ensures;
  lawful = ap (has_form is_name) (sym c.value_of.ensures) ∙ c.in_ok-file.ensures.lawful;
  refused = tt;
}
