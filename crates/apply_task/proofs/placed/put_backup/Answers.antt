use Rattle.std.proofs.Common.{Ok, Err, Bool, ap, refl}
use Rattle.outside.specs.Files.{bytes_at}
use Rattle.apply_task.specs.TargetEffects.{backup_effects}
use Rattle.apply_task.proofs.Making.{makes_is, puts_made, puts_part, put_keeps, makes_nothing}
use Rattle.outside.specs.TreeView.{passes_none}
use Rattle.apply_task.proofs.placed.put_backup.Goals as goal

pub returns-in-Ok : goal.returns-in-Ok
returns-in-Ok g c = record {
  makes = λ temp.
      let target = c.args.target.now in
      let named = c.requires.named in
      makes_is (Ok tt) _ (puts_made target.backup_temp target.backup (λ f. bytes_at f target.name) named.temps.backup c.requires.quiet c.in-Ok.field-0 tt temp named.backup_temp c.in-Ok.ensures.puts)
      (λ f told. ap (λ (b : Bool). backup_effects b f target) c.if-not-due.false);
  keeps = λ q beside.
      let target = c.args.target.now in
      let names = beside c.if-not-due.false in
      put_keeps (g.T.Tree.view c.args.tree.now) (g.T.Tree.view c.copy_backup.new.tree) target.backup_temp target.backup (λ f. bytes_at f target.name) c.in-Ok.ensures.puts.ok q names.0 names.1;
  goes = record { passes = c.in-Ok.ensures.puts.run.passes; cause = tt; quiet = c.in-Ok.ensures.puts.quiet };
}

pub returns-in-Err : goal.returns-in-Err
returns-in-Err g c = record {
  makes = λ temp.
      let target = c.args.target.now in
      makes_is (Err _) _ (puts_part target.backup_temp target.backup (λ f. bytes_at f target.name) c.requires.named.temps.backup c.requires.quiet c.in-Err.field-0 _ temp c.in-Err.ensures.puts)
      (λ f told. ap (λ (b : Bool). backup_effects b f target) c.if-not-due.false);
  goes = record { passes = c.in-Err.ensures.puts.run.passes; cause = (refl, c.in-Err.ensures.puts.run.cause refl); quiet = tt };
  keeps = tt;
}

pub returns-then-not-due-clause-goes : goal.returns-then-not-due-clause-goes
returns-then-not-due-clause-goes g c = record { passes = passes_none _; cause = tt; quiet = c.requires.quiet }

pub returns-then-not-due-clause-makes : goal.returns-then-not-due-clause-makes
returns-then-not-due-clause-makes g c temp =
    let target = c.args.target.now in
    makes_is (Ok tt) _ (makes_nothing (g.T.Tree.view c.args.tree.now) temp tt c.requires.quiet) (λ f told. ap (λ (b : Bool). backup_effects b f target) c.if-not-due.true)
