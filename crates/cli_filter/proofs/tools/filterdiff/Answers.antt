use Rattle.std.proofs.Common.{ap}
use Rattle.outside.specs.FinderView.{finder_passes_none}
use Rattle.cli_tool_words.specs.PlainJobs.{plain_filter_job}
use Rattle.cli_tool_words.specs.PlainJobs.PlainToolJob.{filter_job}
use Rattle.filter_whole_text.specs.Outcomes.{IsOutcomeOf}
use Rattle.cli_filter.specs.Outcomes.{styled_filter}
use Rattle.filter_whole_text.specs.Sifting.{HasTextCause}
use Rattle.cli_filter.specs.Command.{why_by, why_formed}
use Rattle.cli_filter.specs.Worlds.{world}
use Rattle.cli_filter.proofs.Whole.{carries_is}
use Rattle.cli_filter.proofs.Formed.{forms_carry}
use Rattle.cli_filter.proofs.Sifted.{sifts_carry}
use Rattle.cli_filter.proofs.Sifters.{filters, file-unless}
use Rattle.cli_filter.proofs.tools.filterdiff.Goals as goal

pub returns-in-None : goal.returns-in-None
returns-in-None g c = record {
  carries = λ v. let j = plain_filter_job c.args.job in
      let u = world (g.T.Tree.view c.args.tree.now) v (g.I.Source.view c.args.source.now) (g.O.Sink.view c.args.out.now) in
      let w = world (g.T.Tree.view c.run_styled.new.tree) v (g.I.Source.view c.run_styled.new.source) (g.O.Sink.view c.run_styled.new.out) in
      carries_is c.answer.result (why_by c.run_styled.result) c.answer.ensures
      (sifts_carry (filter_job j) j.input j.select (HasTextCause j.select.skip_binary) ⊥ (IsOutcomeOf (styled_filter j)) u w (filters j v c.in-None.is) (finder_passes_none v) c.requires.quiet
      (λ never. ap (λ x. g.I.Source.view x) (c.run_styled.ensures.unread (file-unless j.input never))) c.run_styled.result c.run_styled.ensures.sifts);
  unread = c.run_styled.ensures.unread;
  rest = c.run_styled.ensures.rest;
}

pub returns-in-Some : goal.returns-in-Some
returns-in-Some g c = record {
  carries = λ v. let j = plain_filter_job c.args.job in
      let u = world (g.T.Tree.view c.args.tree.now) v (g.I.Source.view c.args.source.now) (g.O.Sink.view c.args.out.now) in
      let w = world (g.T.Tree.view c.convert_styled.new.tree) v (g.I.Source.view c.convert_styled.new.source) (g.O.Sink.view c.convert_styled.new.out) in
      carries_is c.form_answer.result (why_formed c.convert_styled.result) c.form_answer.ensures
      (forms_carry c.in-Some.form j u w c.in-Some.is (finder_passes_none v) c.requires.quiet
      (λ never. ap (λ x. g.I.Source.view x) (c.convert_styled.ensures.unread (file-unless j.input never))) c.convert_styled.result c.convert_styled.ensures.forms);
  unread = c.convert_styled.ensures.unread;
  rest = c.convert_styled.ensures.rest;
}
