use Rattle.std.proofs.Common.{arith, refl}
use Rattle.std.proofs.lemmas.Result.{IfOk-from_err}
use Rattle.outside.proofs.Quiet.{works_both}
use Rattle.replace_file.proofs.Copying.{given, ended, reads_works, copies_piece, reads_seals, there_told}
use Rattle.outside.specs.TreeView.{passes_both}
use Rattle.replace_file.proofs.Work.{stays_both}
use Rattle.replace_file.proofs.Runs.{run_ok, run_first, run_late, taken-length}
use Rattle.replace_file.proofs.backup.copy_piece.Goals as goal

pub returns-in_err-count : goal.returns-in_err-count
returns-in_err-count g c = record {
  name = refl;
  run = run_first c.read_at.ensures.call.passes (c.in_err-count.ensures.call.cause refl);
  works = reads_works (g.T.Tree.view c.args.tree.now) (g.T.Tree.view c.read_at.new.self) c.read_at.result c.args.begun.now.name.now c.args.begun.now.temporary c.read_at.ensures.call c.read_at.ensures.untouched c.requires.quiet;
  seals = reads_seals (g.T.Tree.view c.args.tree.now) (g.T.Tree.view c.read_at.new.self) c.args.begun.now.name.now c.read_at.ensures.untouched;
  count = IfOk-from_err c.from_residual.result _ c.from_residual.ensures.0;
  copies = IfOk-from_err c.from_residual.result _ c.from_residual.ensures.0;
  end = IfOk-from_err c.from_residual.result _ c.from_residual.ensures.0;
}

pub returns-in_err-put : goal.returns-in_err-put
returns-in_err-put g c = record {
  name = c.put.ensures.name;
  run = run_late c.read_at.ensures.call.passes c.put.ensures.run.passes (c.in_err-put.ensures.run.cause refl);
  works = (
      let u = g.T.Tree.view c.args.tree.now in
      let v = g.T.Tree.view c.read_at.new.self in
      let temp = c.args.begun.now.name.now in
      let is = c.args.begun.now.temporary in
      let reads = reads_works u v c.read_at.result temp is c.read_at.ensures.call c.read_at.ensures.untouched c.requires.quiet in
      works_both u v (g.T.Tree.view c.put.new.tree) temp is reads (c.put.ensures.works reads.quiet));
  seals = stays_both (g.T.Tree.view c.args.tree.now) (g.T.Tree.view c.read_at.new.self) (g.T.Tree.view c.put.new.tree) c.args.begun.now.name.now (reads_seals (g.T.Tree.view c.args.tree.now) (g.T.Tree.view c.read_at.new.self) c.args.begun.now.name.now c.read_at.ensures.untouched) c.put.ensures.seals;
  count = IfOk-from_err c.from_residual-in_err-put.result _ c.from_residual-in_err-put.ensures.0;
  copies = IfOk-from_err c.from_residual-in_err-put.result _ c.from_residual-in_err-put.ensures.0;
  end = IfOk-from_err c.from_residual-in_err-put.result _ c.from_residual-in_err-put.ensures.0;
}

pub returns : goal.returns
returns g c = record {
  name = c.put.ensures.name;
  run = run_ok (passes_both c.read_at.ensures.call.passes c.put.ensures.run.passes);
  works = (
      let u = g.T.Tree.view c.args.tree.now in
      let v = g.T.Tree.view c.read_at.new.self in
      let temp = c.args.begun.now.name.now in
      let is = c.args.begun.now.temporary in
      let reads = reads_works u v c.read_at.result temp is c.read_at.ensures.call c.read_at.ensures.untouched c.requires.quiet in
      works_both u v (g.T.Tree.view c.put.new.tree) temp is reads (c.put.ensures.works reads.quiet));
  seals = stays_both (g.T.Tree.view c.args.tree.now) (g.T.Tree.view c.read_at.new.self) (g.T.Tree.view c.put.new.tree) c.args.begun.now.name.now (reads_seals (g.T.Tree.view c.args.tree.now) (g.T.Tree.view c.read_at.new.self) c.args.begun.now.name.now c.read_at.ensures.untouched) c.put.ensures.seals;
  count = c.in_ok-count.ensures.count;
  copies = (
      copies_piece (g.T.Tree.view c.args.tree.now) (g.T.Tree.view c.read_at.new.self) (g.T.Tree.view c.put.new.tree) c.args.begun.now.name.now c.args.from.now c.args.at c.in_ok-count.count _ c.read_at.ensures.untouched.told
      c.in_ok-put.ensures.there (λ f told. given c.in_ok-count.count _ _ _ (omega (arith, c.in_ok-count.ensures.count, c.read_at.auto.buf)) (c.in_ok-count.ensures.bytes f told)) c.in_ok-put.ensures.ok);
  end = λ none some f told. ended c.in_ok-count.count _ c.args.at _ _ (omega (arith, c.in_ok-count.ensures.count, c.read_at.auto.buf)) (c.in_ok-count.ensures.bytes f told) none some;
}

pub read_at-requires : goal.read_at-requires
read_at-requires g c = c.requires.there

pub slice_bounds-put-end : goal.slice_bounds-put-end
slice_bounds-put-end g c = omega (arith, c.in_ok-count.ensures.count, c.read_at.auto.buf)

pub slice_bounds-put-end-2 : goal.slice_bounds-put-end-2
slice_bounds-put-end-2 g c = taken-length c.in_ok-count.count c.read_at.new.buf (omega (arith, c.in_ok-count.ensures.count, c.read_at.auto.buf))

pub put-requires : goal.put-requires
put-requires g c = there_told (g.T.Tree.view c.args.tree.now) (g.T.Tree.view c.read_at.new.self) c.args.begun.now.name.now c.read_at.ensures.untouched.told c.requires.begun
