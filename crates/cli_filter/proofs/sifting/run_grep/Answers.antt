use Rattle.std.proofs.Common.{refl}
use Rattle.cli_tool_words.specs.PlainJobs.{plain_grep_job, plain_select}
use Rattle.outside.specs.FinderView.{finder_passes_none}
use Rattle.cli_filter.proofs.Written.{searched-unopened, searched-over, searched-untold}
use Rattle.cli_filter.proofs.sifting.run_grep.Goals as goal

pub returns-in-Err : goal.returns-in-Err
returns-in-Err g c = record {
  sifts = searched-unopened (plain_select c.open_text.new.select) (g.F.Finder.view c.args.finder.now) (plain_grep_job c.args.job) _ _ _ _ c.in-Err.fault _ c.in-Err.ensures.opens;
  unread = c.open_text.ensures.unread;
  rest = g.met.O.Sink.rest_none c.args.out.now;
  finder = finder_passes_none _;
  unasked = λ f left told none. refl;
}

pub returns-in-Ok : goal.returns-in-Ok
returns-in-Ok g c = record {
  sifts = let put = c.put_grepped.ensures in
      rw c.search_answer-answer.ensures
      (searched-over (plain_select c.open_text.new.select) (g.F.Finder.view c.args.finder.now) (plain_grep_job c.args.job) _ _ _ _
      g.O.Sink.view c.args.out.now c.put_grepped.new.out c.args.finder.now c.put_grepped.new.finder c.in-Ok.opened c.put_grepped.result c.in-Ok.ensures.opens put.unasked put.none
      put.passes put.received put.failed put.cause);
  unread = c.open_text.ensures.unread;
  rest = c.put_grepped.ensures.rest;
  finder = c.put_grepped.ensures.finder;
  unasked = searched-untold (plain_select c.open_text.new.select) (g.F.Finder.view c.args.finder.now) (plain_grep_job c.args.job) _ _ _ _
      g.O.Sink.view c.args.out.now c.put_grepped.new.out c.args.finder.now c.put_grepped.new.finder c.in-Ok.opened c.put_grepped.result c.in-Ok.ensures.opens c.put_grepped.ensures.unasked c.put_grepped.ensures.none;
}
