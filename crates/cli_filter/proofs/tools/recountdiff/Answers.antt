use Rattle.std.proofs.Common.{ap}
use Rattle.outside.specs.FinderView.{finder_passes_none}
use Rattle.cli_tool_words.specs.PlainJobs.PlainToolJob.{recount_job}
use Rattle.filter_whole_text.specs.Outcomes.{IsOutcomeOf, no_selection, recount_outcome}
use Rattle.filter_whole_text.specs.Sifting.{HasCountCause}
use Rattle.cli_filter.specs.Command.{why_by}
use Rattle.cli_filter.specs.Worlds.{world}
use Rattle.cli_filter.proofs.Whole.{carries_is}
use Rattle.cli_filter.proofs.Sifted.{sifts_carry}
use Rattle.cli_filter.proofs.Sifters.{recounts, file-unless}
use Rattle.cli_filter.proofs.tools.recountdiff.Goals as goal

pub returns : goal.returns
returns g c = record {
  carries = λ v. let j = c.args.input.now in
      let u = world (g.T.Tree.view c.args.tree.now) v (g.I.Source.view c.args.source.now) (g.O.Sink.view c.args.out.now) in
      let w = world (g.T.Tree.view c.run_recount.new.tree) v (g.I.Source.view c.run_recount.new.source) (g.O.Sink.view c.run_recount.new.out) in
      carries_is c.answer.result (why_by c.run_recount.result) c.answer.ensures
      (sifts_carry (recount_job j) j no_selection HasCountCause ⊥ (IsOutcomeOf (recount_outcome j)) u w (recounts j v) (finder_passes_none v) c.requires.quiet
      (λ never. ap (λ x. g.I.Source.view x) (c.run_recount.ensures.unread (file-unless j never))) c.run_recount.result c.run_recount.ensures.sifts);
  unread = c.run_recount.ensures.unread;
  rest = c.run_recount.ensures.rest;
}
