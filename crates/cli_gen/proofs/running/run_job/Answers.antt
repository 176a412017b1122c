use Rattle.std.proofs.Common.{Ok, refl}
use Rattle.cli_tool_words.specs.PlainJobs.{plain_gen_job}
use Rattle.cli_gen.proofs.Behind.{carries_behind}
use Rattle.cli_gen.proofs.Early.{settle_carry, unmade_carry}
use Rattle.cli_gen.proofs.running.run_job.Goals as goal

pub returns-in-Ok-make_ready : goal.returns-in-Ok-make_ready
returns-in-Ok-make_ready g c = record {
  carries = carries_behind (Ok (plain_gen_job c.args.job)) _ _ _ _ c.settle.ensures.opens _ _ _ c.carry_out-ended.ensures.carries;
  scratch = c.carry_out-ended.ensures.scratch;
  rest = c.carry_out-ended.ensures.rest;
}

pub returns-in-Err-make_ready : goal.returns-in-Err-make_ready
returns-in-Err-make_ready g c = record {
  carries = carries_behind (Ok (plain_gen_job c.args.job)) _ _ _ _ c.settle.ensures.opens _ _ _
      (unmade_carry (plain_gen_job c.args.job) (g.T.Tree.view c.settle.new.tree) (g.C.Scratch.view c.args.scratch) (g.O.Sink.view c.args.out.now) c.in-Err-make_ready.why c.requires c.in-Err-make_ready.ensures.refused);
  scratch = λ none. refl;
  rest = g.met.O.Sink.rest_none c.args.out.now;
}

pub returns-in-Err : goal.returns-in-Err
returns-in-Err g c = record {
  carries = settle_carry (Ok (plain_gen_job c.args.job)) _ _ _ _ c.in-Err.why c.settle.ensures.opens c.in-Err.ensures.cause.0 c.in-Err.ensures.cause.1;
  rest = g.met.O.Sink.rest_none c.args.out.now;
  scratch = λ none. refl;
}

pub make_ready-requires : goal.make_ready-requires
make_ready-requires g c = c.requires

pub carry_out-ended-requires-clause-options : goal.carry_out-ended-requires-clause-options
carry_out-ended-requires-clause-options g c = c.in-Ok-make_ready.ensures.options

pub carry_out-ended-requires-clause-set : goal.carry_out-ended-requires-clause-set
carry_out-ended-requires-clause-set g c = c.in-Ok-make_ready.ensures.set

pub carry_out-ended-requires-clause-made : goal.carry_out-ended-requires-clause-made
carry_out-ended-requires-clause-made g c = c.in-Ok-make_ready.ensures.made

pub carry_out-ended-requires-clause-hunks : goal.carry_out-ended-requires-clause-hunks
carry_out-ended-requires-clause-hunks g c = c.in-Ok-make_ready.ensures.hunks

pub carry_out-ended-requires-clause-quiet : goal.carry_out-ended-requires-clause-quiet
carry_out-ended-requires-clause-quiet g c = c.in-Ok.ensures.quiet
