use Rattle.clap.proofs.TakesLemmas.{passed_up}
use Rattle.outside.proofs.Exits.{if_ok_none}
use Rattle.patch_options.proofs.Refusing.{refused_as, no_left, no_right, all_yes}
use Rattle.cli_tool_words.proofs.selecting.read_subject.Goals as goal

pub returns-in_err-input : goal.returns-in_err-input
returns-in_err-input c = record {
  input = if_ok_none _ _ c.from_residual.result c.from_residual.ensures.1;
  select = if_ok_none _ _ c.from_residual.result c.from_residual.ensures.1;
  lawful = if_ok_none _ _ c.from_residual.result c.from_residual.ensures.1;
  refused = (
      let fault = c.in_err-input.field-0.0 in
      passed_up c.from_residual.result fault _ c.from_residual.ensures.1 (refused_as fault _ _ (λ none. no_right _ _ none) c.in_err-input.ensures.refused));
}

pub returns-in-Err : goal.returns-in-Err
returns-in-Err c = record {
  input = tt;
  select = tt;
  lawful = tt;
  refused = refused_as c.in-Err.fault _ _ (λ none. no_left _ _ none) c.in-Err.ensures.refused;
}

pub returns-in-Ok : goal.returns-in-Ok
returns-in-Ok c = record {
  input = c.in_ok-input.ensures.input;
  select = c.in-Ok.ensures.select;
  lawful = all_yes _ _ c.in-Ok.ensures.lawful c.in_ok-input.ensures.lawful;
  refused = tt;
}
