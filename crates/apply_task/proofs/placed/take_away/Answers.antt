use Rattle.outside.specs.Quiet.Effect.{Remove}
use Rattle.apply_task.proofs.Making.{effect_makes, effect_fails, remove_keeps}
use Rattle.std.proofs.Common.{refl}
use Rattle.apply_task.proofs.placed.take_away.Goals as goal

pub returns-in-Ok : goal.returns-in-Ok
returns-in-Ok g c = record {
  makes = λ temp. effect_makes temp c.in-Ok.field-0 tt (Remove c.args.target.now.name) c.requires.quiet c.in-Ok.ensures.makes c.in-Ok.ensures.ok;
  keeps = remove_keeps (g.T.Tree.view c.args.tree.now) (g.T.Tree.view c.remove_name.new.tree) c.args.target.now.name c.in-Ok.ensures.ok;
  goes = record { passes = c.in-Ok.ensures.run.passes; cause = tt; quiet = c.in-Ok.ensures.quiet };
}

pub returns-in-Err : goal.returns-in-Err
returns-in-Err g c = record {
  makes = λ temp. effect_fails temp c.in-Err.field-0 _ (Remove c.args.target.now.name) c.requires.quiet c.in-Err.ensures.makes;
  goes = record { passes = c.in-Err.ensures.run.passes; cause = (refl, c.in-Err.ensures.run.cause refl); quiet = tt };
  keeps = tt;
}
