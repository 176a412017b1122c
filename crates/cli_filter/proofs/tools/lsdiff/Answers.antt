use Rattle.std.proofs.Common.{ap}
use Rattle.outside.specs.FinderView.{finder_passes_none}
use Rattle.cli_tool_words.specs.PlainJobs.{plain_list_job}
use Rattle.cli_tool_words.specs.PlainJobs.PlainToolJob.{list_job}
use Rattle.filter_whole_text.specs.Outcomes.{IsOutcomeOf}
use Rattle.cli_filter.specs.Outcomes.{list_outcome}
use Rattle.filter_whole_text.specs.Sifting.{HasTextCause}
use Rattle.cli_filter.specs.Command.{why_by}
use Rattle.cli_filter.specs.Worlds.{world}
use Rattle.cli_filter.proofs.Whole.{carries_is}
use Rattle.cli_filter.proofs.Sifted.{sifts_carry}
use Rattle.cli_filter.proofs.Sifters.{lists, file-unless}
use Rattle.cli_filter.proofs.tools.lsdiff.Goals as goal

pub returns : goal.returns
returns g c = record {
  carries = λ v. let j = plain_list_job c.args.job in
      let u = world (g.T.Tree.view c.args.tree.now) v (g.I.Source.view c.args.source.now) (g.O.Sink.view c.args.out.now) in
      let w = world (g.T.Tree.view c.run_list.new.tree) v (g.I.Source.view c.run_list.new.source) (g.O.Sink.view c.run_list.new.out) in
      carries_is c.answer.result (why_by c.run_list.result) c.answer.ensures
      (sifts_carry (list_job j) j.input j.select (HasTextCause j.select.skip_binary) ⊥ (IsOutcomeOf (list_outcome j)) u w (lists j v) (finder_passes_none v) c.requires.quiet
      (λ never. ap (λ x. g.I.Source.view x) (c.run_list.ensures.unread (file-unless j.input never))) c.run_list.result c.run_list.ensures.sifts);
  unread = c.run_list.ensures.unread;
  rest = c.run_list.ensures.rest;
}
