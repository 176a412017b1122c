use Rattle.std.proofs.Common.{◌∙◌, [], Option, ap, unwrap_or}
use Rattle.clap.specs.Words.{Text}
use Rattle.outside.proofs.Exits.{if_ok_none}
use Rattle.cli_tool_words.proofs.styling.read_prefixes.Goals as goal

pub returns-in_err-both : goal.returns-in_err-both
returns-in_err-both c = record {
  both = if_ok_none _ _ c.from_residual.result c.from_residual.ensures.1;
  old = if_ok_none _ _ c.from_residual.result c.from_residual.ensures.1;
  new = if_ok_none _ _ c.from_residual.result c.from_residual.ensures.1;
}

pub returns-in-Ok-text_or_none : goal.returns-in-Ok-text_or_none
returns-in-Ok-text_or_none c = record {
  both = c.in_ok-both.ensures ∙ c.value_of.ensures;
  old = c.in-Ok.ensures ∙ ap (λ (text : Option Text). unwrap_or text []) c.value_of-2.ensures;
  new = c.in-Ok-text_or_none.ensures ∙ ap (λ (text : Option Text). unwrap_or text []) c.value_of-3.ensures;
}
