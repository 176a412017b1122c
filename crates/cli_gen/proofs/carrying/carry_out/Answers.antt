use Rattle.patch_options.specs.PlainJob.{plain_options, PlainOptions}
use Rattle.cli_tool_words.specs.PlainJobs.{plain_gen_job}
use Rattle.cli_gen.proofs.Finished.{ends_of_cut, ends_of_run}
use Rattle.cli_gen.proofs.Joined.{carries_run, carries_unput}
use Rattle.std.proofs.Common.{refl, sym, ap, subst, ◌∙◌}
use Rattle.patch_run.specs.Finishes.{CanApply}
use Rattle.patch_run.specs.Scratches.{has_scratch}
use Rattle.cli_gen.proofs.carrying.carry_out.Goals as goal

pub returns-in-Err : goal.returns-in-Err
returns-in-Err g c = record {
  carries = carries_unput (plain_gen_job c.args.job) c.args.work.now.set (g.T.Tree.view c.args.tree.now) _ (g.O.Sink.view c.args.out.now) c.requires.set c.in-Err.field-0 (g.T.Tree.view c.put_files.new.tree) c.in-Err.ensures;
  rest = g.met.O.Sink.rest_none c.args.out.now;
  scratch = λ none. refl;
}

pub returns-in-Ok-applied : goal.returns-in-Ok-applied
returns-in-Ok-applied g c = record {
  carries = let j = plain_gen_job c.args.job in
      let set = c.args.work.now.set in
      let put = g.T.Tree.view c.put_files.new.tree in
      let before = g.O.Sink.view c.args.out.now in
      carries_run j set (g.T.Tree.view c.args.tree.now) _ before c.requires.set c.in-Ok.field-0 put c.in-Ok.ensures (g.T.Tree.view c.tell.new.tree) _ (g.O.Sink.view c.tell.new.out) c.tell.result
      (ends_of_run j set put (g.T.Tree.view c.apply-applied.new.tree) (g.T.Tree.view c.tell.new.tree) _ _ before (g.O.Sink.view c.apply-applied.new.out) (g.O.Sink.view c.tell.new.out)
      (plain_options c.args.work.now.options) c.apply-applied.result.0 c.in-Ok-applied.applied c.args.work.now.hunks c.verdicts.result.now _
      c.requires.options c.in-Ok-applied.is c.apply-applied.ensures.finishes c.apply-applied.ensures.verdicts c.verdicts.ensures c.requires.hunks c.tell.result c.tell.ensures.tells);
  rest = g.met.O.Sink.rest_both c.args.out.now c.apply-applied.new.out c.tell.new.out c.apply-applied.ensures.rest c.tell.ensures.rest;
  scratch = λ none. c.apply-applied.ensures.scratch (ap (λ (o : PlainOptions). has_scratch o.plan) c.requires.options ∙ none);
}

pub returns-in-Err-applied : goal.returns-in-Err-applied
returns-in-Err-applied g c = record {
  carries = let j = plain_gen_job c.args.job in
      let set = c.args.work.now.set in
      let put = g.T.Tree.view c.put_files.new.tree in
      let before = g.O.Sink.view c.args.out.now in
      carries_run j set (g.T.Tree.view c.args.tree.now) _ before c.requires.set c.in-Ok.field-0 put c.in-Ok.ensures (g.T.Tree.view c.apply-applied.new.tree) _ (g.O.Sink.view c.apply-applied.new.out) _
      (ends_of_cut j set put (g.T.Tree.view c.apply-applied.new.tree) _ _ before (g.O.Sink.view c.apply-applied.new.out)
      (plain_options c.args.work.now.options) c.apply-applied.result.0 c.in-Err-applied.fault c.from.result c.requires.options c.in-Err-applied.is c.from.ensures c.apply-applied.ensures.finishes);
  rest = c.apply-applied.ensures.rest;
  scratch = λ none. c.apply-applied.ensures.scratch (ap (λ (o : PlainOptions). has_scratch o.plan) c.requires.options ∙ none);
}

pub apply-applied-requires-clause-can : goal.apply-applied-requires-clause-can
apply-applied-requires-clause-can g c = subst (λ (o : PlainOptions). CanApply o c.args.work.now.set) (sym c.requires.options) c.requires.set.can

pub apply-applied-requires-clause-quiet : goal.apply-applied-requires-clause-quiet
apply-applied-requires-clause-quiet g c = c.in-Ok.ensures.quiet

pub put_files-requires-clause-quiet : goal.put_files-requires-clause-quiet
put_files-requires-clause-quiet g c = c.requires.quiet

pub put_files-requires-clause-made : goal.put_files-requires-clause-made
put_files-requires-clause-made g c = rw (c.deref.ensures.value, c.deref-2.ensures.value) c.requires.made
