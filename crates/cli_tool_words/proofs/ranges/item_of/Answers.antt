use Rattle.std.proofs.Common.{◌∙◌, Some, None, lit<}
use Rattle.std.proofs.lemmas.Str.Pattern.{split_once_first}
use Rattle.cli_tool_words.proofs.Items.{with_hyphen, without_hyphen}
use Rattle.cli_tool_words.proofs.ranges.item_of.Goals as goal

pub returns-in-Some : goal.returns-in-Some
returns-in-Some c =
    let parts = split_once_first 45 c.args.text.now (Some (c.in-Some.front, c.in-Some.back)) c.in-Some.ensures.cases (lit< tt) in
    c.between.ensures ∙ with_hyphen c.args.text.now c.in-Some.front.now c.in-Some.back.now parts.1 parts.2 parts.0

pub returns-in-None : goal.returns-in-None
returns-in-None c = c.single.ensures ∙ without_hyphen c.args.text.now (split_once_first 45 c.args.text.now None c.in-None.ensures.cases (lit< tt))
