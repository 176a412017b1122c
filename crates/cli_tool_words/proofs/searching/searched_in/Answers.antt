use Rattle.std.proofs.Common.{◌∙◌, Option, ap, is_some, option_and_then, unwrap_or}
use Rattle.clap.specs.Words.{Text}
use Rattle.patch_options.specs.Table.{has_form}
use Rattle.cli_tool_words.specs.Asked.{searched_of, is_searched}
use Rattle.cli_tool_words.specs.declared.jobs.Searched.{Searched}
use Rattle.cli_tool_words.specs.declared.jobs.Searched.TheVariants.{All}
use Rattle.cli_tool_words.proofs.Making.{given_or}
use Rattle.cli_tool_words.proofs.searching.searched_in.Goals as goal

pub returns-in-Some : goal.returns-in-Some
returns-in-Some c = record {
  searched = given_or c.searched_of.result _ All (c.searched_of.ensures ∙ ap (option_and_then searched_of) c.in-Some.ensures);
  lawful = ap (λ (o : Option Searched). is_some o) c.searched_of.ensures ∙ ap (has_form is_searched) c.in-Some.ensures;
}

pub returns-in-None : goal.returns-in-None
returns-in-None c = record {
  searched = ap (λ (text : Option Text). unwrap_or (option_and_then searched_of text) All) c.in-None.ensures;
  lawful = ap (has_form is_searched) c.in-None.ensures;
}
