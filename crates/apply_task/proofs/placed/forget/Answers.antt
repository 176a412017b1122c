use Rattle.std.proofs.Common.{ℕ, List, subst, refl, []}
use Rattle.apply_task.specs.Making.{IsGone}
use Rattle.apply_task.proofs.Making.{remove_gone, makes_works, works_fails}
use Rattle.outside.specs.Quiet.{WorksOn}
use Rattle.apply_task.specs.declared.fault.RunFault.TheVariants.{Tree}
use Rattle.apply_task.proofs.placed.forget.Goals as goal

pub returns-in-Ok-clause-gone : goal.returns-in-Ok-clause-gone
returns-in-Ok-clause-gone g c =
    let w = g.T.Tree.view c.forget.new.tree in
    subst (λ (n : List ℕ). IsGone w n) c.requires.temp (remove_gone (g.T.Tree.view c.args.tree.now) w c.args.temp.name.now c.in-Ok.ensures.ok c.in-Ok.ensures.run.passes)

pub returns-in-Ok-clause-goes : goal.returns-in-Ok-clause-goes
returns-in-Ok-clause-goes g c = record { passes = c.in-Ok.ensures.run.passes; cause = tt; quiet = (c.forget.ensures.works c.requires.quiet).quiet }

pub returns-in-Ok-clause-makes : goal.returns-in-Ok-clause-makes
returns-in-Ok-clause-makes g c = makes_works c.args.target.now.temp c.requires.named.temps.own (subst (λ (n : List ℕ). WorksOn (g.T.Tree.view c.args.tree.now) (g.T.Tree.view c.forget.new.tree) n) c.requires.temp (c.forget.ensures.works c.requires.quiet)) tt

pub returns-in-Err : goal.returns-in-Err
returns-in-Err g c = record {
  goes = record { passes = c.in-Err.ensures.run.passes; cause = (refl, c.in-Err.ensures.run.cause refl); quiet = tt };
  gone = tt;
  name = tt;
  makes = works_fails c.args.target.now.temp c.requires.named.temps.own (subst (λ (n : List ℕ). WorksOn (g.T.Tree.view c.args.tree.now) (g.T.Tree.view c.forget.new.tree) n) c.requires.temp (c.forget.ensures.works c.requires.quiet)) Tree (λ f. []);
}
