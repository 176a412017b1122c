use Rattle.std.proofs.Common.{◌∷◌, ℕ, [], List, Option, Ok, Err, true, unwrap_or, sym, ap, refl}
use Rattle.outside.specs.Files.{Files, bytes_at}
use Rattle.outside.specs.Quiet.Effect.{Put}
use Rattle.apply_task.proofs.Making.{makes_is, puts_made, puts_part, puts_named, put_gone, put_keeps}
use Rattle.apply_task.proofs.placed.put_filled.Goals as goal

pub returns-in-Ok : goal.returns-in-Ok
returns-in-Ok g c = record {
  makes = λ output holds.
      let u = g.T.Tree.view c.args.tree.now in
      let w = g.T.Tree.view c.put_begun.new.tree in
      let target = c.args.target.now in
      let bytes : Files → List ℕ = λ f. bytes_at f target.temp in
      let puts = puts_named target.name c.requires.temp c.in-Ok.ensures in
      makes_is (Ok true) _ (puts_made target.temp target.name bytes c.requires.named.temps.own c.requires.quiet c.in-Ok.field-0 true target.temp c.requires.named.temp puts)
      (λ f told. ap (λ (o : Option (List ℕ)). Put target.name (unwrap_or o []) ∷ []) (sym (holds f told)));
  gone = (
      let u = g.T.Tree.view c.args.tree.now in
      let w = g.T.Tree.view c.put_begun.new.tree in
      let target = c.args.target.now in
      let puts = puts_named target.name c.requires.temp c.in-Ok.ensures in
      put_gone u w target.temp target.name (λ f. bytes_at f target.temp) puts.ok puts.run.passes);
  keeps = (
      let u = g.T.Tree.view c.args.tree.now in
      let w = g.T.Tree.view c.put_begun.new.tree in
      let target = c.args.target.now in
      let puts = puts_named target.name c.requires.temp c.in-Ok.ensures in
      put_keeps u w target.temp target.name (λ f. bytes_at f target.temp) puts.ok);
  goes = record { passes = c.in-Ok.ensures.run.passes; cause = tt; quiet = c.in-Ok.ensures.quiet };
  wrote = refl;
}

pub returns-in-Err : goal.returns-in-Err
returns-in-Err g c = record {
  makes = λ output holds.
      let u = g.T.Tree.view c.args.tree.now in
      let w = g.T.Tree.view c.put_begun.new.tree in
      let target = c.args.target.now in
      let bytes : Files → List ℕ = λ f. bytes_at f target.temp in
      let puts = puts_named target.name c.requires.temp c.in-Err.ensures in
      makes_is (Err _) _ (puts_part target.temp target.name bytes c.requires.named.temps.own c.requires.quiet c.in-Err.field-0 _ target.temp puts)
      (λ f told. ap (λ (o : Option (List ℕ)). Put target.name (unwrap_or o []) ∷ []) (sym (holds f told)));
  goes = record { passes = c.in-Err.ensures.run.passes; cause = (refl, c.in-Err.ensures.run.cause refl); quiet = tt };
  gone = tt;
  keeps = tt;
  wrote = tt;
}
