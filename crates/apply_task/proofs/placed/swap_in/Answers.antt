use Rattle.std.proofs.Common.{ℕ, List, false, subst, sym, refl, ◌∙◌}
use Rattle.std.proofs.lemmas.Result.{on_ok_weaker}
use Rattle.outside.specs.Calls.{IsThere}
use Rattle.apply_task.specs.declared.fault.RunFault.TheVariants.{Tree}
use Rattle.apply_task.specs.TargetEffects.{target_effects}
use Rattle.apply_task.proofs.Making.{untouched_works, goes_after, makes_after, makes_none}
use Rattle.apply_task.proofs.placed.swap_in.Goals as goal

pub set_manner-requires : goal.set_manner-requires
set_manner-requires g c = subst (λ (n : List ℕ). IsThere (g.T.Tree.view c.args.tree.now) n) (sym c.requires.temp) c.requires.there

pub put_filled-requires-clause-named : goal.put_filled-requires-clause-named
put_filled-requires-clause-named g c = c.requires.named

pub put_filled-requires-clause-temp : goal.put_filled-requires-clause-temp
put_filled-requires-clause-temp g c = c.set_manner.ensures.name ∙ c.requires.temp

pub put_filled-requires-clause-quiet : goal.put_filled-requires-clause-quiet
put_filled-requires-clause-quiet g c = (untouched_works c.args.target.now.temp c.set_manner.ensures.untouched c.requires.quiet).quiet

pub put_filled-requires-clause-there : goal.put_filled-requires-clause-there
put_filled-requires-clause-there g c f now = c.requires.there f (sym c.set_manner.ensures.untouched.told ∙ now)

pub returns-in-Ok : goal.returns-in-Ok
returns-in-Ok g c =
    let same = c.set_manner.ensures.untouched in
    let put = c.put_filled.ensures in
    record {
      makes = λ output holds.
          makes_after c.requires.named same c.requires.quiet (λ f. target_effects false f c.args.target.now output) c.put_filled.result put.goes.passes (put.makes output (λ f now. holds f (sym same.told ∙ now)));
      goes = goes_after same c.put_filled.result put.goes;
      gone = put.gone;
      keeps = on_ok_weaker c.put_filled.result (λ keeps q ne net f g told now. keeps q ne net f g (same.told ∙ told) now) put.keeps;
      wrote = put.wrote;
    }

pub returns-in-Err : goal.returns-in-Err
returns-in-Err g c = record {
  makes = λ output holds. makes_none c.requires.named c.set_manner.ensures.untouched c.requires.quiet (λ f. target_effects false f c.args.target.now output) Tree;
  goes = record { passes = c.set_manner.ensures.untouched.passes; cause = (refl, c.in-Err.ensures.cause); quiet = tt };
  gone = tt;
  keeps = tt;
  wrote = tt;
}
