use Rattle.cli_tool_words.specs.PlainJobs.{plain_split_job}
use Rattle.cli_filter.specs.Command.{why_by}
use Rattle.cli_filter.proofs.Whole.{carries_is}
use Rattle.cli_filter.proofs.Split.{split_carry}
use Rattle.cli_filter.proofs.tools.splitdiff.Goals as goal

pub returns : goal.returns
returns g c = record {
  carries = λ v s. carries_is c.answer.result (why_by c.run_split.result) c.answer.ensures
      (split_carry (plain_split_job c.args.job.now) v s (g.T.Tree.view c.args.tree.now) (g.T.Tree.view c.run_split.new.tree) (g.O.Sink.view c.args.out.now) (g.O.Sink.view c.run_split.new.out) c.run_split.result c.run_split.ensures.splits);
  rest = c.run_split.ensures.rest;
}
