use Rattle.std.proofs.Common.{ℕ, List}
use Rattle.outside.specs.Files.{Files, bytes_at}
use Rattle.replace_file.proofs.Putting.{puts_makes, bytes_same}
use Rattle.replace_file.proofs.backup.copy_backup.Goals as goal

pub returns : goal.returns
returns g c = record {
  puts = c.copy_to_temp.ensures;
  makes = λ f told. (
      let u = g.T.Tree.view c.args.tree.now in
      let k : Files → List ℕ = λ x. bytes_at x c.args.from.now in
      puts_makes u (g.T.Tree.view c.copy_to_temp.new.tree) c.copy_to_temp.result c.args.temp.now c.args.to.now (k f) k c.requires.temporary c.copy_to_temp.ensures (bytes_same u k f told));
}

pub copy_to_temp-requires-clause-temporary : goal.copy_to_temp-requires-clause-temporary
copy_to_temp-requires-clause-temporary g c = c.requires.temporary

pub copy_to_temp-requires-clause-lasting_from : goal.copy_to_temp-requires-clause-lasting_from
copy_to_temp-requires-clause-lasting_from g c = c.requires.lasting_from

pub copy_to_temp-requires-clause-lasting : goal.copy_to_temp-requires-clause-lasting
copy_to_temp-requires-clause-lasting g c = c.requires.lasting

pub copy_to_temp-requires-clause-quiet : goal.copy_to_temp-requires-clause-quiet
copy_to_temp-requires-clause-quiet g c = c.requires.quiet
