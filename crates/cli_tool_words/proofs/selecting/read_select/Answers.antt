use Rattle.std.proofs.Common.{◌∙◌, ap, inl, inr, refl, sym}
use Rattle.clap.proofs.TakesLemmas.{passed_up}
use Rattle.outside.proofs.Exits.{if_ok_none}
use Rattle.patch_options.specs.Simple.{rows_in}
use Rattle.patch_options.specs.Forms.{is_name}
use Rattle.patch_options.specs.Table.{has_form}
use Rattle.cli_tool_words.specs.Selecting.{is_number}
use Rattle.cli_tool_words.proofs.Selection.{selected, select_is_lawful, strip_refused, include_refused, exclude_refused}
use Rattle.cli_tool_words.proofs.selecting.read_select.Goals as goal

pub returns-then-not-is_number : goal.returns-then-not-is_number
returns-then-not-is_number c = record {
  select = tt;
  lawful = tt;
  refused = inr (refl, strip_refused (rows_in c.args.matches.now) (ap (has_form is_number) (sym c.value_of.ensures) ∙ (sym c.is_number.ensures ∙ c.if-not-is_number.true)));
}

pub returns-in_err-include_file : goal.returns-in_err-include_file
returns-in_err-include_file c = record {
  select = if_ok_none _ _ c.from_residual.result c.from_residual.ensures.1;
  lawful = if_ok_none _ _ c.from_residual.result c.from_residual.ensures.1;
  refused = (
      let fault = c.in_err-include_file.field-0.0 in
      passed_up c.from_residual.result fault _ c.from_residual.ensures.1 (include_refused (rows_in c.args.matches.now) fault c.value_of-2.ensures c.in_err-include_file.ensures.refused));
}

pub returns-in-Err : goal.returns-in-Err
returns-in-Err c = record {
  select = tt;
  lawful = tt;
  refused = exclude_refused (rows_in c.args.matches.now) c.in-Err.fault c.value_of-3.ensures c.in-Err.ensures.refused;
}

pub returns-in-Ok-patterns-2 : goal.returns-in-Ok-patterns-2
returns-in-Ok-patterns-2 c = record {
  select = (
      selected (rows_in c.args.matches.now) _ c.number_or_0.ensures c.in-Ok-patterns.ensures c.in-Ok-patterns-2.ensures c.in_ok-include_file.ensures.name c.value_of-2.ensures
      c.in-Ok.ensures.name c.value_of-3.ensures c.is_one_given.ensures refl);
  lawful = (
      select_is_lawful (rows_in c.args.matches.now)
      (ap (has_form is_number) (sym c.value_of.ensures) ∙ (sym c.is_number.ensures ∙ c.if-not-is_number.false))
      (ap (has_form is_name) (sym c.value_of-2.ensures) ∙ c.in_ok-include_file.ensures.lawful)
      (ap (has_form is_name) (sym c.value_of-3.ensures) ∙ c.in-Ok.ensures.lawful));
  refused = tt;
}

pub returns-in-Err-patterns-2 : goal.returns-in-Err-patterns-2
returns-in-Err-patterns-2 c = record {
  select = tt;
  lawful = tt;
  refused = inl refl;
}

pub returns-in-Err-patterns : goal.returns-in-Err-patterns
returns-in-Err-patterns c = record {
  select = tt;
  lawful = tt;
  refused = inl refl;
}
