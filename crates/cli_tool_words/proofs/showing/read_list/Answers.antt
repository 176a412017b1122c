use Rattle.clap.proofs.TakesLemmas.{passed_up}
use Rattle.outside.proofs.Exits.{if_ok_none}
use Rattle.patch_options.proofs.Refusing.{refused_as, no_left, no_right, all_yes}
use Rattle.cli_tool_words.proofs.showing.read_list.Goals as goal

pub returns-in_err-shown : goal.returns-in_err-shown
returns-in_err-shown c = record {
  input = if_ok_none _ _ c.from_residual.result c.from_residual.ensures.1;
  select = if_ok_none _ _ c.from_residual.result c.from_residual.ensures.1;
  shown = if_ok_none _ _ c.from_residual.result c.from_residual.ensures.1;
  numbered = if_ok_none _ _ c.from_residual.result c.from_residual.ensures.1;
  lawful = if_ok_none _ _ c.from_residual.result c.from_residual.ensures.1;
  refused = (
      let fault = c.in_err-shown.field-0.0 in
      passed_up c.from_residual.result fault _ c.from_residual.ensures.1 (refused_as fault _ _ (λ none. no_left _ _ none) c.in_err-shown.ensures.refused));
}

pub returns-in-Err : goal.returns-in-Err
returns-in-Err c = record {
  input = tt;
  select = tt;
  shown = tt;
  numbered = tt;
  lawful = tt;
  refused = refused_as c.in-Err.fault _ _ (λ none. no_right _ _ none) c.in-Err.ensures.refused;
}

pub returns-in-Ok : goal.returns-in-Ok
returns-in-Ok c = record {
  input = c.in-Ok.ensures.input;
  select = c.in-Ok.ensures.select;
  shown = c.in_ok-shown.ensures.shown;
  numbered = c.is_used.ensures;
  lawful = all_yes _ _ c.in_ok-shown.ensures.lawful c.in-Ok.ensures.lawful;
  refused = tt;
}
