use Rattle.std.proofs.Common.{◌∙◌, Option, ap, is_some, option_and_then, unwrap_or}
use Rattle.clap.specs.Words.{Text}
use Rattle.patch_options.specs.Table.{has_form}
use Rattle.cli_tool_words.specs.Asked.{grep_out_of, is_grep_out}
use Rattle.cli_tool_words.specs.declared.jobs.GrepOut.{GrepOut}
use Rattle.cli_tool_words.specs.declared.jobs.GrepOut.TheVariants.{Names}
use Rattle.cli_tool_words.proofs.Making.{given_or}
use Rattle.cli_tool_words.proofs.searching.output_in.Goals as goal

pub returns-in-Some : goal.returns-in-Some
returns-in-Some c = record {
  output = given_or c.grep_out_of.result _ Names (c.grep_out_of.ensures ∙ ap (option_and_then grep_out_of) c.in-Some.ensures);
  lawful = ap (λ (o : Option GrepOut). is_some o) c.grep_out_of.ensures ∙ ap (has_form is_grep_out) c.in-Some.ensures;
}

pub returns-in-None : goal.returns-in-None
returns-in-None c = record {
  output = ap (λ (text : Option Text). unwrap_or (option_and_then grep_out_of text) Names) c.in-None.ensures;
  lawful = ap (has_form is_grep_out) c.in-None.ensures;
}
