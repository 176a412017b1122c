use Rattle.std.proofs.Common.{◌∙◌, ◌+◌, ◌≤◌, subst, arith, refl, sym}
use Rattle.std.proofs.lemmas.Result.{IfOk-from_err}
use Rattle.std.proofs.lemmas.List.{length-take}
use Rattle.outside.specs.Calls.{SealsStay, IsThere}
use Rattle.outside.specs.Quiet.{WorksOn}
use Rattle.outside.proofs.Quiet.{works_both}
use Rattle.replace_file.specs.Copies.{Copies}
use Rattle.replace_file.proofs.Copying.{there_works, copied_more, copied_early, copied_none, copied_all, within-size, fits-within}
use Rattle.outside.specs.TreeView.{passes_both}
use Rattle.replace_file.proofs.Work.{stays_both}
use Rattle.replace_file.proofs.Runs.{run_ok, run_late}
use Rattle.replace_file.proofs.backup.copy_bytes.Goals as goal

pub copy_piece-requires-clause-there : goal.copy_piece-requires-clause-there
copy_piece-requires-clause-there g c =
    let begun = c.args.begun.now in
    there_works (g.T.Tree.view c.args.tree.now) (g.T.Tree.view c.pieces.tree) begun.name.now c.args.from.now begun.temporary c.requires.lasting c.pieces.invariant.1.works c.requires.there

pub returns-in_err-count : goal.returns-in_err-count
returns-in_err-count g c = record {
  name = c.copy_piece.ensures.name ∙ c.pieces.invariant.0;
  run = run_late c.pieces.invariant.1.works.passes c.copy_piece.ensures.run.passes (c.in_err-count.ensures.run.cause refl);
  works = (
      let v = g.T.Tree.view c.pieces.tree in
      let w = g.T.Tree.view c.copy_piece.new.tree in
      let begun = c.args.begun.now in
      works_both (g.T.Tree.view c.args.tree.now) v w begun.name.now begun.temporary c.pieces.invariant.1.works (subst (λ n. WorksOn v w n) c.pieces.invariant.0 c.copy_piece.ensures.works));
  seals = stays_both (g.T.Tree.view c.args.tree.now) (g.T.Tree.view c.pieces.tree) (g.T.Tree.view c.copy_piece.new.tree) c.args.begun.now.name.now c.pieces.invariant.1.seals (subst (λ m. SealsStay (g.T.Tree.view c.pieces.tree) (g.T.Tree.view c.copy_piece.new.tree) m) c.pieces.invariant.0 c.copy_piece.ensures.seals);
  copies = IfOk-from_err c.from_residual.result _ c.from_residual.ensures.0;
}

pub returns-then-count-eq0 : goal.returns-then-count-eq0
returns-then-count-eq0 g c = record {
  name = c.copy_piece.ensures.name ∙ c.pieces.invariant.0;
  run = run_ok (passes_both c.pieces.invariant.1.works.passes c.copy_piece.ensures.run.passes);
  works = (
      let v = g.T.Tree.view c.pieces.tree in
      let w = g.T.Tree.view c.copy_piece.new.tree in
      let begun = c.args.begun.now in
      works_both (g.T.Tree.view c.args.tree.now) v w begun.name.now begun.temporary c.pieces.invariant.1.works (subst (λ n. WorksOn v w n) c.pieces.invariant.0 c.copy_piece.ensures.works));
  seals = stays_both (g.T.Tree.view c.args.tree.now) (g.T.Tree.view c.pieces.tree) (g.T.Tree.view c.copy_piece.new.tree) c.args.begun.now.name.now c.pieces.invariant.1.seals (subst (λ m. SealsStay (g.T.Tree.view c.pieces.tree) (g.T.Tree.view c.copy_piece.new.tree) m) c.pieces.invariant.0 c.copy_piece.ensures.seals);
  copies = (
      let begun = c.args.begun.now in
      let w = g.T.Tree.view c.copy_piece.new.tree in
      let there : IsThere w begun.name.now = subst (λ n. IsThere w n) c.pieces.invariant.0 c.in_ok-count.ensures.copies.there in
      copied_early (g.T.Tree.view c.args.tree.now) (g.T.Tree.view c.pieces.tree) w begun.name.now c.args.from.now c.pieces.at c.in_ok-count.count c.args.size begun.temporary c.requires.lasting c.pieces-test.true c.pieces.invariant.1 there c.requires.size
      (λ f told. c.in_ok-count.ensures.end c.if-count-eq0.true (omega (arith, length-take c.piece_length-wanted.result c.pieces.buffer, c.piece_length-wanted.ensures, c.pieces-test.true)) f told));
}

pub pieces-preserved : goal.pieces-preserved
pieces-preserved g c =
    let v = g.T.Tree.view c.pieces.tree in
    let w = g.T.Tree.view c.copy_piece.new.tree in
    let begun = c.args.begun.now in
    let n = begun.name.now in
    let same = c.pieces.invariant.0 in
    let le : c.pieces.at + c.in_ok-count.count ≤ c.args.size =
    within-size c.pieces.at c.in_ok-count.count c.piece_length-wanted.result c.args.size _ c.pieces.buffer c.in_ok-count.ensures.count c.piece_length-wanted.ensures c.pieces-test.true in (
      c.copy_piece.ensures.name ∙ same,
      copied_more (g.T.Tree.view c.args.tree.now) v w n c.args.from.now c.pieces.at c.in_ok-count.count c.args.size begun.temporary c.requires.lasting le c.pieces.invariant.1
          (subst (λ m. WorksOn v w m) same c.copy_piece.ensures.works) (subst (λ m. SealsStay v w m) same c.copy_piece.ensures.seals)
          (subst (λ m. Copies v w m c.args.from.now c.pieces.at c.in_ok-count.count) same c.in_ok-count.ensures.copies),
    )

pub pieces-init : goal.pieces-init
pieces-init g c = (refl, copied_none (g.T.Tree.view c.args.tree.now) c.args.begun.now.name.now c.args.from.now c.args.size c.requires.quiet c.requires.begun)

pub overflow_sub-size : goal.overflow_sub-size
overflow_sub-size g c = c.pieces.invariant.1.within

pub copy_piece-requires-clause-quiet : goal.copy_piece-requires-clause-quiet
copy_piece-requires-clause-quiet g c = c.pieces.invariant.1.works.quiet

pub copy_piece-requires-clause-lasting : goal.copy_piece-requires-clause-lasting
copy_piece-requires-clause-lasting g c = c.requires.lasting

pub copy_piece-requires-clause-begun : goal.copy_piece-requires-clause-begun
copy_piece-requires-clause-begun g c = subst (λ m. IsThere (g.T.Tree.view c.pieces.tree) m) (sym c.pieces.invariant.0) c.pieces.invariant.1.copies.there

pub returns : goal.returns
returns g c = record {
  name = c.pieces.invariant.0;
  run = run_ok c.pieces.invariant.1.works.passes;
  works = c.pieces.invariant.1.works;
  seals = c.pieces.invariant.1.seals;
  copies = copied_all (g.T.Tree.view c.args.tree.now) (g.T.Tree.view c.pieces.tree) c.args.begun.now.name.now c.args.from.now c.pieces.at c.args.size c.pieces-test.false c.pieces.invariant.1;
}

pub overflow_add-at : goal.overflow_add-at
overflow_add-at g c =
    fits-within _ c.args.size c.ranges.size.fits
    (within-size c.pieces.at c.in_ok-count.count c.piece_length-wanted.result c.args.size _ c.pieces.buffer c.in_ok-count.ensures.count c.piece_length-wanted.ensures c.pieces-test.true)
