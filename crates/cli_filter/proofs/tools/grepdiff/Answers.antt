use Rattle.std.proofs.Common.{ap, false, ◌≡◌}
use Rattle.cli_tool_words.specs.PlainJobs.{plain_grep_job}
use Rattle.cli_tool_words.specs.PlainJobs.PlainToolJob.{grep_job}
use Rattle.cli_filter.specs.Outcomes.{IsGrepped}
use Rattle.filter_whole_text.specs.Sifting.{HasTextCause}
use Rattle.cli_filter.specs.Command.{why_by}
use Rattle.cli_filter.specs.Worlds.{world}
use Rattle.cli_filter.proofs.Whole.{carries_is}
use Rattle.cli_filter.proofs.Sifted.{sifts_carry}
use Rattle.cli_filter.proofs.Sifters.{greps, file-unless}
use Rattle.cli_filter.proofs.tools.grepdiff.Goals as goal

pub returns : goal.returns
returns g c = record {
  carries = let j = plain_grep_job c.args.job in
      let v = g.F.Finder.view c.args.finder.now in
      let u = world (g.T.Tree.view c.args.tree.now) v (g.I.Source.view c.args.source.now) (g.O.Sink.view c.args.out.now) in
      let w = world (g.T.Tree.view c.run_grep.new.tree) (g.F.Finder.view c.run_grep.new.finder) (g.I.Source.view c.run_grep.new.source) (g.O.Sink.view c.run_grep.new.out) in
      carries_is c.answer.result (why_by c.run_grep.result) c.answer.ensures
      (sifts_carry (grep_job j) j.input j.select (HasTextCause j.select.skip_binary) (v.takes j.pattern ≡ false) (IsGrepped v.takes v.hit j) u w (greps j v) c.run_grep.ensures.finder c.requires.quiet
      (λ never. ap (λ x. g.I.Source.view x) (c.run_grep.ensures.unread (file-unless j.input never))) c.run_grep.result c.run_grep.ensures.sifts);
  unread = c.run_grep.ensures.unread;
  unasked = λ v f left told none. c.run_grep.ensures.unasked f left (record { files = told.files; left = told.source }) none;
  rest = c.run_grep.ensures.rest;
}
