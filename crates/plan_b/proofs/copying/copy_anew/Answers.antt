use Rattle.std.proofs.Common.{◌≡◌, ◌≤◌, length, Some, refl, subst, ◌∙◌, arith, sym}
use Rattle.line_store.specs.declared.Half.TheVariants.{Second}
use Rattle.outside.specs.Files.{bytes_at}
use Rattle.outside.specs.ScratchView.{scratch_passes_both}
use Rattle.outside.proofs.Views.{untouched_none, untouched_both}
use Rattle.page_pair.specs.Pair.{page_of}
use Rattle.page_pair.specs.Reading.{told_file}
use Rattle.plan_b.specs.Copying.{IsCopied}
use Rattle.page_pair.proofs.Windows.{none-unless}
use Rattle.plan_b.proofs.Layouts.{some-fit}
use Rattle.page_pair.proofs.Readings.{told-same, take-later}
use Rattle.plan_b.proofs.Copyings.{ready-none, copied-none, written-all, end-fault, copied-count}
use Rattle.plan_b.proofs.copying.copy_anew.Goals as goal

pub loop-copied-init : goal.loop-copied-init
loop-copied-init g c = record {
  untouched = untouched_none _;
  size = refl;
  passes = c.restart.ensures.passes;
  ready = ready-none c.args.layout (g.C.Scratch.view c.restart.new.scratch).told (record { pages = 0; records = 0 }) refl refl (some-fit c.args.layout c.requires.layout) c.in-Ok.ensures.empty;
  few = omega arith;
  within = omega arith;
  copied = copied-none c.args.layout (g.C.Scratch.view c.restart.new.scratch).told (told_file (g.T.Tree.view c.args.tree.now) c.args.name.now) (page_of c.args.pair.now Second) (record { pages = 0; records = 0 }) c.requires.layout refl refl c.in-Ok.ensures.empty;
}

pub returns-in-Err-copy_piece : goal.returns-in-Err-copy_piece
returns-in-Err-copy_piece g c = record {
  untouched = untouched_both c.loop-copied.invariant.untouched c.in-Err-copy_piece.ensures.untouched;
  size = c.in-Err-copy_piece.ensures.size ∙ c.loop-copied.invariant.size;
  passes = scratch_passes_both c.loop-copied.invariant.passes c.in-Err-copy_piece.ensures.passes;
  written = tt;
  cause = (
      let scratch = g.C.Scratch.view in
      let tree = g.T.Tree.view in
      take-later c.in-Err-copy_piece.fault (scratch c.args.scratch.now) (scratch c.loop-copied.scratch) (scratch c.copy_piece.new.scratch) (tree c.args.tree.now) (tree c.loop-copied.tree) (tree c.copy_piece.new.tree) c.loop-copied.invariant.passes c.loop-copied.invariant.untouched c.in-Err-copy_piece.ensures.cause);
}

pub loop-copied-preserved : goal.loop-copied-preserved
loop-copied-preserved g c =
    let view = g.C.Scratch.view in
    record {
      untouched = untouched_both c.loop-copied.invariant.untouched c.in-Ok-copy_piece.ensures.untouched;
      size = c.in-Ok-copy_piece.ensures.size ∙ c.loop-copied.invariant.size;
      passes = scratch_passes_both c.loop-copied.invariant.passes c.in-Ok-copy_piece.ensures.passes;
      ready = c.in-Ok-copy_piece.ensures.ready;
      few = c.in-Ok-copy_piece.ensures.few;
      within = c.in-Ok-copy_piece.ensures.within;
      copied = subst (λ file. IsCopied c.args.layout (view c.copy_piece.new.scratch).told (page_of c.copy_piece.new.pair Second) c.in-Ok-copy_piece.next.at c.in-Ok-copy_piece.next.filling file) (told-same c.args.name.now c.loop-copied.invariant.untouched) c.in-Ok-copy_piece.ensures.copied;
    }

pub returns-in-Ok-finish : goal.returns-in-Ok-finish
returns-in-Ok-finish g c = record {
  untouched = c.loop-copied.invariant.untouched;
  size = c.in-Ok-finish.ensures.size ∙ c.loop-copied.invariant.size;
  passes = scratch_passes_both c.loop-copied.invariant.passes c.in-Ok-finish.ensures.passes;
  written = (
      let view = g.C.Scratch.view in
      let within : c.loop-copied.copied.at ≤ c.args.length = c.loop-copied.invariant.within in
      written-all c.args.layout (view c.loop-copied.scratch).told (view c.finish.new.scratch).told (told_file (g.T.Tree.view c.args.tree.now) c.args.name.now) (page_of c.loop-copied.pair Second) c.loop-copied.copied.at c.loop-copied.copied.filling
      c.loop-copied.invariant.copied (λ text file. let len : length text ≡ c.args.length = c.requires.stated text file in omega arith) c.in-Ok-finish.ensures.count c.in-Ok-finish.ensures.pages);
  cause = tt;
}

pub returns-in-Err-finish : goal.returns-in-Err-finish
returns-in-Err-finish g c = record {
  untouched = c.loop-copied.invariant.untouched;
  size = c.in-Err-finish.ensures.size ∙ c.loop-copied.invariant.size;
  passes = scratch_passes_both c.loop-copied.invariant.passes c.in-Err-finish.ensures.passes;
  written = tt;
  cause = (
      let view = g.C.Scratch.view in
      let tree = g.T.Tree.view in
      let within : c.loop-copied.copied.at ≤ c.args.length = c.loop-copied.invariant.within in
      end-fault c.in-Err-finish.fault c.args.layout c.loop-copied.copied.filling (view c.args.scratch.now) (view c.loop-copied.scratch) (view c.finish.new.scratch) (tree c.args.tree.now) (tree c.loop-copied.tree)
      c.loop-copied.invariant.passes c.in-Err-finish.ensures.cause
      (λ other. none-unless _ (λ f told.
      let file : told_file (tree c.args.tree.now) c.args.name.now ≡ Some (bytes_at f c.args.name.now) = rw told refl in
      let len : length (bytes_at f c.args.name.now) ≡ c.args.length = c.requires.stated (bytes_at f c.args.name.now) file in
      other ((c.requires.measured (bytes_at f c.args.name.now) file).counted
      ∙ copied-count c.args.layout (view c.loop-copied.scratch).told (told_file (tree c.args.tree.now) c.args.name.now) (page_of c.loop-copied.pair Second) (bytes_at f c.args.name.now) c.loop-copied.copied.at c.loop-copied.copied.filling c.loop-copied.invariant.copied file (omega arith)))));
}

pub copy_piece-requires-clause-stated : goal.copy_piece-requires-clause-stated
copy_piece-requires-clause-stated g c text told = c.requires.stated text (sym (told-same c.args.name.now c.loop-copied.invariant.untouched) ∙ told)

pub copy_piece-requires-clause-layout : goal.copy_piece-requires-clause-layout
copy_piece-requires-clause-layout g c = c.requires.layout

pub copy_piece-requires-clause-ready : goal.copy_piece-requires-clause-ready
copy_piece-requires-clause-ready g c = c.loop-copied.invariant.ready

pub copy_piece-requires-clause-few : goal.copy_piece-requires-clause-few
copy_piece-requires-clause-few g c = c.loop-copied.invariant.few

pub copy_piece-requires-clause-short : goal.copy_piece-requires-clause-short
copy_piece-requires-clause-short g c = c.requires.short

pub copy_piece-requires-clause-copied : goal.copy_piece-requires-clause-copied
copy_piece-requires-clause-copied g c = subst (IsCopied c.args.layout (g.C.Scratch.view c.loop-copied.scratch).told (page_of c.loop-copied.pair Second) c.loop-copied.copied.at c.loop-copied.copied.filling) (sym (told-same c.args.name.now c.loop-copied.invariant.untouched)) c.loop-copied.invariant.copied

pub finish-requires-clause-layout : goal.finish-requires-clause-layout
finish-requires-clause-layout g c = c.requires.layout

pub finish-requires-clause-ready : goal.finish-requires-clause-ready
finish-requires-clause-ready g c = c.loop-copied.invariant.ready

pub returns-in-Err-clause-untouched : goal.returns-in-Err-clause-untouched
returns-in-Err-clause-untouched g c = untouched_none _

pub returns-in-Err-clause-size : goal.returns-in-Err-clause-size
returns-in-Err-clause-size g c = refl

pub returns-in-Err-clause-passes : goal.returns-in-Err-clause-passes
returns-in-Err-clause-passes g c = c.restart.ensures.passes

pub returns-in-Err-clause-written : goal.returns-in-Err-clause-written
returns-in-Err-clause-written g c = tt

pub copy_piece-requires-clause-fits : goal.copy_piece-requires-clause-fits
copy_piece-requires-clause-fits g c text told = (c.requires.measured text (sym (told-same c.args.name.now c.loop-copied.invariant.untouched) ∙ told)).fits

pub loop-copied-smaller : goal.loop-copied-smaller
loop-copied-smaller g c = omega (arith, c.in-Ok-copy_piece.ensures.on, c.loop-copied-test.true)

pub copy_piece-requires-clause-within : goal.copy_piece-requires-clause-within
copy_piece-requires-clause-within g c = c.loop-copied-test.true
