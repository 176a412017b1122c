use Rattle.std.proofs.Common.{sym, ◌∙◌, inr, refl}
use Rattle.series_stack.proofs.Steps.{untouched_fails, untouched_first, absent_made, size_absent, size_there}
use Rattle.series_stack.specs.Causes.{HasFailed}
use Rattle.std.proofs.lemmas.Result.{IfErr-weaker}
use Rattle.series_stack.proofs.Going.{failed_then}
use Rattle.series_stack.proofs.files.take_away.Goals as goal

pub returns-in-Err : goal.returns-in-Err
returns-in-Err g c = record {
  makes = untouched_fails c.in-Err.ensures.untouched c.requires.quiet _ _;
  cause = inr (refl, c.in-Err.ensures.call.cause refl);
}

pub returns-in-Ok-None-clause-makes : goal.returns-in-Ok-None-clause-makes
returns-in-Ok-None-clause-makes g c =
    let size = c.in-Ok-None in
    absent_made size.ensures.untouched c.requires.quiet tt c.args.name.now
    (size_absent (g.T.Tree.view c.args.tree.now) c.args.name.now (λ f told. sym size.field-0-is ∙ size.ensures.size f told))

pub returns-in-Ok-Some : goal.returns-in-Ok-Some
returns-in-Ok-Some g c = record {
  makes = untouched_first c.in-Ok-Some.ensures.untouched c.requires.quiet c.remove_there.result _ c.remove_there.ensures.makes;
  cause = (
      let u = g.T.Tree.view c.args.tree.now in
      let v = g.T.Tree.view c.size.new.self in
      let w = g.T.Tree.view c.remove_there.new.tree in
      IfErr-weaker c.remove_there.result (λ e. HasFailed e v w) (λ e. HasFailed e u w) (λ e h. failed_then u v w e c.in-Ok-Some.ensures.untouched.passes h) c.remove_there.ensures.cause);
}

pub remove_there-requires-clause-there : goal.remove_there-requires-clause-there
remove_there-requires-clause-there g c =
    let size = c.in-Ok-Some in
    size_there (g.T.Tree.view c.args.tree.now) (g.T.Tree.view c.size.new.self) c.args.name.now size.field-0-0 size.ensures.untouched (λ f told. sym size.field-0-is ∙ size.ensures.size f told)

pub remove_there-requires-clause-lasting : goal.remove_there-requires-clause-lasting
remove_there-requires-clause-lasting g c = c.requires.lasting
