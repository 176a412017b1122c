use Rattle.std.proofs.Common.{ap}
use Rattle.outside.specs.FinderView.{finder_passes_none}
use Rattle.cli_tool_words.specs.PlainJobs.PlainToolJob.{flip_job}
use Rattle.filter_whole_text.specs.Outcomes.{IsOutcomeOf, no_selection}
use Rattle.filter_whole_text.specs.Flips.{HasFlipCause, flip_outcome}
use Rattle.cli_filter.specs.Command.{why_by}
use Rattle.cli_filter.specs.Worlds.{world}
use Rattle.cli_filter.proofs.Whole.{carries_is}
use Rattle.cli_filter.proofs.Sifted.{sifts_carry}
use Rattle.cli_filter.proofs.Sifters.{flips, file-unless}
use Rattle.cli_filter.proofs.tools.reversediff.Goals as goal

pub returns : goal.returns
returns g c = record {
  carries = λ v. let j = c.args.input.now in
      let u = world (g.T.Tree.view c.args.tree.now) v (g.I.Source.view c.args.source.now) (g.O.Sink.view c.args.out.now) in
      let w = world (g.T.Tree.view c.run_flip.new.tree) v (g.I.Source.view c.run_flip.new.source) (g.O.Sink.view c.run_flip.new.out) in
      carries_is c.answer.result (why_by c.run_flip.result) c.answer.ensures
      (sifts_carry (flip_job j) j no_selection HasFlipCause ⊥ (IsOutcomeOf (flip_outcome j)) u w (flips j v) (finder_passes_none v) c.requires.quiet
      (λ never. ap (λ x. g.I.Source.view x) (c.run_flip.ensures.unread (file-unless j never))) c.run_flip.result c.run_flip.ensures.sifts);
  unread = c.run_flip.ensures.unread;
  rest = c.run_flip.ensures.rest;
}
