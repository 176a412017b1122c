use Rattle.std.proofs.Common.{◌∙◌, ap, option_and_then, sym}
use Rattle.clap.proofs.TakesLemmas.{passed_up}
use Rattle.outside.proofs.Exits.{if_ok_none}
use Rattle.patch_options.specs.Table.{has_form}
use Rattle.patch_options.proofs.Refusing.{refused_as, no_left, no_right, all_yes}
use Rattle.cli_tool_words.specs.Asked.{is_ranges}
use Rattle.cli_tool_words.specs.Ranges.{ranges_of}
use Rattle.cli_tool_words.proofs.filtering.ranges_in.Goals as goal

pub returns-in_err-hunks : goal.returns-in_err-hunks
returns-in_err-hunks c = record {
  hunks = if_ok_none _ _ c.from_residual.result c.from_residual.ensures.1;
  lines = if_ok_none _ _ c.from_residual.result c.from_residual.ensures.1;
  files = if_ok_none _ _ c.from_residual.result c.from_residual.ensures.1;
  lawful = if_ok_none _ _ c.from_residual.result c.from_residual.ensures.1;
  refused = (
      let fault = c.in_err-hunks.field-0.0 in
      passed_up c.from_residual.result fault _ c.from_residual.ensures.1
      (refused_as fault _ _ (λ none. no_left _ _ (ap (has_form is_ranges) (sym c.value_of.ensures) ∙ none)) c.in_err-hunks.ensures.refused));
}

pub returns-in-Err : goal.returns-in-Err
returns-in-Err c = record {
  hunks = tt;
  lines = tt;
  files = tt;
  lawful = tt;
  refused = refused_as c.in-Err.fault _ _ (λ none. no_right _ _ (no_left _ _ (ap (has_form is_ranges) (sym c.value_of-2.ensures) ∙ none))) c.in-Err.ensures.refused;
}

pub returns-in-Err-read_ranges : goal.returns-in-Err-read_ranges
returns-in-Err-read_ranges c = record {
  hunks = tt;
  lines = tt;
  files = tt;
  lawful = tt;
  refused = refused_as c.in-Err-read_ranges.fault _ _ (λ none. no_right _ _ (no_right _ _ (ap (has_form is_ranges) (sym c.value_of-3.ensures) ∙ none))) c.in-Err-read_ranges.ensures.refused;
}

pub returns-in-Ok-read_ranges : goal.returns-in-Ok-read_ranges
returns-in-Ok-read_ranges c = record {
  hunks = c.in_ok-hunks.ensures.ranges ∙ ap (option_and_then ranges_of) c.value_of.ensures;
  lines = c.in-Ok.ensures.ranges ∙ ap (option_and_then ranges_of) c.value_of-2.ensures;
  files = c.in-Ok-read_ranges.ensures.ranges ∙ ap (option_and_then ranges_of) c.value_of-3.ensures;
  lawful = (
      all_yes _ _ (ap (has_form is_ranges) (sym c.value_of.ensures) ∙ c.in_ok-hunks.ensures.lawful)
      (all_yes _ _ (ap (has_form is_ranges) (sym c.value_of-2.ensures) ∙ c.in-Ok.ensures.lawful)
      (ap (has_form is_ranges) (sym c.value_of-3.ensures) ∙ c.in-Ok-read_ranges.ensures.lawful)));
  refused = tt;
}
