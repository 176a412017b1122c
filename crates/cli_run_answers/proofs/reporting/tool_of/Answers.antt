use Rattle.cli_run_answers.proofs.Writes.{tool_of-first, tool_of-none}
use Rattle.cli_run_answers.proofs.reporting.tool_of.Goals as goal

pub returns-in-Some : goal.returns-in-Some
returns-in-Some c = tool_of-first c.args.words.now c.in-Some.word.now c.as_str.result.now c.named_tool.result.now c.in-Some.ensures.value c.as_str.ensures.value c.named_tool.ensures

pub returns-in-None : goal.returns-in-None
returns-in-None c = tool_of-none c.args.words.now c.in-None.ensures.value
