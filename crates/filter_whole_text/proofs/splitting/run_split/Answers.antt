use Rattle.std.proofs.Common.{refl}
use Rattle.outside.proofs.Views.{untouched_quiet}
use Rattle.cli_tool_words.specs.PlainJobs.{plain_split_job}
use Rattle.filter_whole_text.proofs.SplitRun.{splits-unread, splits}
use Rattle.filter_whole_text.proofs.splitting.run_split.Goals as goal

pub put_set-answer-requires : goal.put_set-answer-requires
put_set-answer-requires g c = record { quiet = untouched_quiet c.in-Ok.ensures.untouched c.requires.quiet; whole = c.in-Ok.ensures.whole }

pub returns-in-Ok : goal.returns-in-Ok
returns-in-Ok g c = record {
  splits = splits (plain_split_job c.args.job.now) (g.O.Sink.view c.args.out.now) c.in-Ok.ensures.untouched (g.T.Tree.view c.put_set-answer.new.tree) (g.O.Sink.view c.put_set-answer.new.out) c.in-Ok.set
      c.requires.quiet c.in-Ok.ensures.set c.put_set-answer.result c.put_set-answer.ensures.puts;
  rest = c.put_set-answer.ensures.rest;
}

pub returns-in-Err : goal.returns-in-Err
returns-in-Err g c = record {
  splits = splits-unread (plain_split_job c.args.job.now) (g.O.Sink.view c.args.out.now) c.read_split.ensures.untouched c.in-Err.fault _ refl c.in-Err.ensures.cause c.in-Err.ensures.refused;
  rest = g.met.O.Sink.rest_none c.args.out.now;
}
