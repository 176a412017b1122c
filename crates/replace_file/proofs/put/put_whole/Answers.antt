use Rattle.std.proofs.Common.{refl}
use Rattle.replace_file.proofs.Putting.{on_err, puts_tells, puts_makes}
use Rattle.replace_file.proofs.put.put_whole.Goals as goal

pub returns : goal.returns
returns g c = record {
  run = c.put_bytes.ensures.run;
  ok = c.put_bytes.ensures.ok;
  quiet = c.put_bytes.ensures.quiet;
  err = (
      let bytes = c.args.bytes.now in
      on_err c.put_bytes.result _ (puts_tells (g.T.Tree.view c.args.tree.now) (g.T.Tree.view c.put_bytes.new.tree) c.put_bytes.result c.args.temp.now c.args.to.now bytes (λ f. bytes) c.requires.temporary c.put_bytes.ensures (λ f told. refl)));
  any_moment = c.put_bytes.ensures.since;
  makes = (
      let bytes = c.args.bytes.now in
      puts_makes (g.T.Tree.view c.args.tree.now) (g.T.Tree.view c.put_bytes.new.tree) c.put_bytes.result c.args.temp.now c.args.to.now bytes (λ f. bytes) c.requires.temporary c.put_bytes.ensures (λ f told. refl));
  tells = c.put_bytes.ensures.tells;
  seals = c.put_bytes.ensures.seals;
}

pub put_bytes-requires-clause-temporary : goal.put_bytes-requires-clause-temporary
put_bytes-requires-clause-temporary g c = c.requires.temporary

pub put_bytes-requires-clause-lasting : goal.put_bytes-requires-clause-lasting
put_bytes-requires-clause-lasting g c = c.requires.lasting

pub put_bytes-requires-clause-quiet : goal.put_bytes-requires-clause-quiet
put_bytes-requires-clause-quiet g c = c.requires.quiet
