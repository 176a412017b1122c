use Rattle.std.proofs.Common.{inl, Option, None, refl, sym, ◌∙◌, subst, arith}
use Rattle.std.proofs.lemmas.Bool.{false≢true}
use Rattle.std.proofs.lemmas.Result.{IfErr-weaker, on_ok_weaker}
use Rattle.outside.specs.TreeView.{passes_none}
use Rattle.outside.specs.Calls.{untouched_none}
use Rattle.outside.proofs.Effects.{made_none}
use Rattle.outside.proofs.Exits.{if_ok_none, on_ok_none}
use Rattle.replace_file.specs.declared.temp.Temp.{Temp}
use Rattle.apply_task.specs.declared.fault.RunFault.{RunFault}
use Rattle.apply_task.specs.declared.fault.RunFault.TheVariants.{Write}
use Rattle.patch_run.specs.OnePatch.{Tried, tried_said}
use Rattle.apply_outcome.specs.ContextView.{plain_context}
use Rattle.apply_start.specs.Trying.{IsBegun}
use Rattle.patch_run.specs.Doing.{HasEndCause, IsOutcome, IsOrdered}
use Rattle.patch_run.proofs.Applying.{on_err, if_err, if_any, is_wet, begun_name, is_dry, unmade, tell_ordered, tell_fails, tell_dry, tell_made, tell_breaks}
use Rattle.apply_task.proofs.Tidy.{tidy_none}
use Rattle.patch_run.proofs.one_patch.tell_and_make.Goals as goal

pub returns-in-Some : goal.returns-in-Some
returns-in-Some g c = record {
  whole = (
      tell_made (plain_context c.args.turn.now) c.args.source.now c.args.target.now c.args.attempt.session c.args.side c.args.verdicts.now c.args.end (g.T.Tree.view c.args.tree.now) (g.T.Tree.view c.make_effects.new.tree) (g.O.Sink.view c.args.out.now) (g.O.Sink.view c.tell.new.out)
      c.in-Some.temp (subst (λ (o : Option Temp). IsBegun c.args.turn.now.task.options.now.dry_run o c.args.target.now.temp) c.in-Some.is c.requires.begun) (λ y side vs counts end. (c.in_ok-tell.ensures.writes y side vs counts end).received) c.make_effects.result c.make_effects.ensures.makes c.make_effects.ensures.gone c.make_effects.ensures.wrote c.make_effects.ensures.count);
  broken = (
      tell_breaks (plain_context c.args.turn.now) c.args.source.now c.args.target.now c.args.attempt.session c.args.side c.args.verdicts.now c.args.end (g.T.Tree.view c.args.tree.now) (g.T.Tree.view c.make_effects.new.tree) (g.O.Sink.view c.args.out.now) (g.O.Sink.view c.tell.new.out)
      c.in-Some.temp (subst (λ (o : Option Temp). IsBegun c.args.turn.now.task.options.now.dry_run o c.args.target.now.temp) c.in-Some.is c.requires.begun) (λ y side vs counts end. (c.in_ok-tell.ensures.writes y side vs counts end).received) c.make_effects.result c.make_effects.ensures.makes);
  dry = λ dry.
      let begun = subst (λ (o : Option Temp). IsBegun c.args.turn.now.task.options.now.dry_run o c.args.target.now.temp) c.in-Some.is c.requires.begun in
      absurd (false≢true (sym (is_wet c.args.turn.now.task.options.now.dry_run c.args.target.now.temp c.in-Some.temp begun) ∙ dry));
  order = (
      tell_ordered (plain_context c.args.turn.now) c.args.source.now c.args.target.now c.args.attempt.session c.args.side c.args.verdicts.now c.args.end (g.T.Tree.view c.args.tree.now) (g.T.Tree.view c.make_effects.new.tree) (g.O.Sink.view c.args.out.now) (g.O.Sink.view c.tell.new.out)
      (λ y side vs counts end. (c.in_ok-tell.ensures.writes y side vs counts end).received) c.make_effects.result c.make_effects.ensures.goes.cause);
  rest = c.in_ok-tell.ensures.rest;
  few = c.make_effects.ensures.few;
  tidy = c.make_effects.ensures.tidy;
  tree = c.make_effects.ensures.goes.passes;
  sink = c.in_ok-tell.ensures.call.passes;
  cause = (
      let u = g.T.Tree.view c.args.tree.now in
      let w = g.T.Tree.view c.make_effects.new.tree in
      IfErr-weaker c.make_effects.result _ _
      (λ e is. subst (λ (x : RunFault). HasEndCause x u w (g.O.Sink.view c.args.out.now) (g.O.Sink.view c.tell.new.out)) (sym is.0) is.1)
      c.make_effects.ensures.goes.cause);
  quiet = c.make_effects.ensures.goes.quiet;
  gone = on_ok_weaker c.make_effects.result (λ gone wet. gone) c.make_effects.ensures.gone;
}

pub returns-in_err-tell : goal.returns-in_err-tell
returns-in_err-tell g c = record {
  broken = (
      let u = g.T.Tree.view c.args.tree.now in
      on_err c.from_residual.result (λ f x told is.
      tell_fails (plain_context c.args.turn.now) c.args.source.now c.args.target.now c.args.attempt.session c.args.side c.args.verdicts.now c.args.end u u (g.O.Sink.view c.args.out.now) (g.O.Sink.view c.tell.new.out) f x c.requires.quiet
      (λ y side vs counts end. (c.in_err-tell.ensures.writes y side vs counts end).failed) is));
  dry = λ dry. untouched_none (g.T.Tree.view c.args.tree.now);
  order = (
      let u = g.T.Tree.view c.args.tree.now in
      if_any
      (λ (e : RunFault). (x : Tried) → IsOutcome c.args.turn.now.task.options.now.dry_run u c.args.attempt.session c.args.target.now.temp c.args.side c.args.verdicts.now c.args.end x
      → IsOrdered e u u (g.O.Sink.view c.args.out.now) (g.O.Sink.view c.tell.new.out) (tried_said (plain_context c.args.turn.now) c.args.target.now x))
      c.from_residual.result (λ e x is. inl (unmade (made_none u c.requires.quiet))));
  rest = c.in_err-tell.ensures.rest;
  quiet = on_ok_none _ _ c.from_residual.result c.from_residual.ensures.1;
  tidy = on_ok_none _ _ c.from_residual.result c.from_residual.ensures.1;
  gone = on_ok_none _ _ c.from_residual.result c.from_residual.ensures.1;
  whole = if_ok_none _ _ c.from_residual.result c.from_residual.ensures.1;
  few = if_ok_none _ _ c.from_residual.result c.from_residual.ensures.1;
  tree = passes_none (g.T.Tree.view c.args.tree.now);
  sink = c.in_err-tell.ensures.call.passes;
  cause = (
      let u = g.T.Tree.view c.args.tree.now in
      if_err (λ (x : RunFault). HasEndCause x u u (g.O.Sink.view c.args.out.now) (g.O.Sink.view c.tell.new.out)) Write c.from_residual.result c.from_residual.ensures.1 (c.in_err-tell.ensures.call.cause refl));
}

pub make_effects-requires-clause-temp : goal.make_effects-requires-clause-temp
make_effects-requires-clause-temp g c =
    begun_name c.args.turn.now.task.options.now.dry_run c.args.target.now.temp c.in-Some.temp (subst (λ (o : Option Temp). IsBegun c.args.turn.now.task.options.now.dry_run o c.args.target.now.temp) c.in-Some.is c.requires.begun)

pub make_effects-requires-clause-wet : goal.make_effects-requires-clause-wet
make_effects-requires-clause-wet g c =
    is_wet c.args.turn.now.task.options.now.dry_run c.args.target.now.temp c.in-Some.temp (subst (λ (o : Option Temp). IsBegun c.args.turn.now.task.options.now.dry_run o c.args.target.now.temp) c.in-Some.is c.requires.begun)

pub make_effects-requires-clause-there : goal.make_effects-requires-clause-there
make_effects-requires-clause-there g c =
    c.requires.there (is_wet c.args.turn.now.task.options.now.dry_run c.args.target.now.temp c.in-Some.temp (subst (λ (o : Option Temp). IsBegun c.args.turn.now.task.options.now.dry_run o c.args.target.now.temp) c.in-Some.is c.requires.begun))

pub returns-in-None : goal.returns-in-None
returns-in-None g c = record {
  whole = λ f x told is.
      let u = g.T.Tree.view c.args.tree.now in
      let begun : IsBegun c.args.turn.now.task.options.now.dry_run None c.args.target.now.temp = subst (λ (o : Option Temp). IsBegun c.args.turn.now.task.options.now.dry_run o c.args.target.now.temp) c.in-None.is c.requires.begun in
      tell_dry (plain_context c.args.turn.now) c.args.source.now c.args.target.now c.args.attempt.session c.args.side c.args.verdicts.now c.args.end u u (g.O.Sink.view c.args.out.now) (g.O.Sink.view c.tell.new.out) f x begun c.requires.quiet told
      (λ y side vs counts end. (c.in_ok-tell.ensures.writes y side vs counts end).received) is;
  dry = λ dry. untouched_none (g.T.Tree.view c.args.tree.now);
  tidy = tidy_none (g.T.Tree.view c.args.tree.now);
  gone = λ wet.
      let begun : IsBegun c.args.turn.now.task.options.now.dry_run None c.args.target.now.temp = subst (λ (o : Option Temp). IsBegun c.args.turn.now.task.options.now.dry_run o c.args.target.now.temp) c.in-None.is c.requires.begun in
      absurd (false≢true (sym wet ∙ is_dry c.args.turn.now.task.options.now.dry_run c.args.target.now.temp begun));
  cause = tt;
  broken = tt;
  order = tt;
  quiet = c.requires.quiet;
  rest = c.in_ok-tell.ensures.rest;
  tree = passes_none (g.T.Tree.view c.args.tree.now);
  sink = c.in_ok-tell.ensures.call.passes;
  few = omega arith;
}

pub make_effects-requires-clause-rows : goal.make_effects-requires-clause-rows
make_effects-requires-clause-rows g c = c.requires.rows

pub make_effects-requires-clause-turn : goal.make_effects-requires-clause-turn
make_effects-requires-clause-turn g c = c.requires.turn

pub make_effects-requires-clause-named : goal.make_effects-requires-clause-named
make_effects-requires-clause-named g c = c.requires.named

pub make_effects-requires-clause-source : goal.make_effects-requires-clause-source
make_effects-requires-clause-source g c = c.requires.source

pub make_effects-requires-clause-quiet : goal.make_effects-requires-clause-quiet
make_effects-requires-clause-quiet g c = c.requires.quiet

pub tell-requires-clause-tried : goal.tell-requires-clause-tried
tell-requires-clause-tried g c = c.requires.tried

pub tell-requires-clause-rows : goal.tell-requires-clause-rows
tell-requires-clause-rows g c = c.requires.rows

pub tell-requires-clause-turn : goal.tell-requires-clause-turn
tell-requires-clause-turn g c = c.requires.turn

pub tell-requires-clause-named : goal.tell-requires-clause-named
tell-requires-clause-named g c = c.requires.named
