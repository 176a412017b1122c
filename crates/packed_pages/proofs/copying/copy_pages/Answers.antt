use Rattle.std.proofs.Common.{◌≡◌, ◌≤◌, length, Some, refl, subst, ◌∙◌, arith, sym}
use Rattle.line_store.specs.declared.Half.TheVariants.{Second}
use Rattle.outside.specs.Files.{bytes_at}
use Rattle.outside.specs.ScratchView.{scratch_passes_none, scratch_passes_both}
use Rattle.outside.proofs.Views.{untouched_none, untouched_both}
use Rattle.page_pair.specs.Pair.{page_of}
use Rattle.page_pair.specs.Reading.{told_file}
use Rattle.page_pair.specs.Room.{no_room}
use Rattle.page_pair.proofs.Windows.{none-unless}
use Rattle.page_pair.proofs.Readings.{told-same}
use Rattle.packed_pages.specs.Copying.{IsCopied}
use Rattle.packed_pages.proofs.Copyings.{ready-none, copied-none, written-all, end-fault, copied-count}
use Rattle.outside.proofs.Exits.{on_ok_none}
use Rattle.packed_pages.proofs.copying.copy_pages.Goals as goal

pub loop-copied-init : goal.loop-copied-init
loop-copied-init g c = record {
  untouched = untouched_none _;
  size = refl;
  passes = scratch_passes_none _;
  ready = ready-none c.args.layout (g.C.Scratch.view c.args.scratch.now).told (record { room = no_room; first = 1; count = 0 }) refl refl refl c.requires.laid;
  few = omega arith;
  within = omega arith;
  copied = copied-none c.args.layout (g.C.Scratch.view c.args.scratch.now).told (told_file (g.T.Tree.view c.args.tree.now) c.args.name.now) (page_of c.args.pair.now Second) (record { room = no_room; first = 1; count = 0 }) refl refl refl c.requires.laid;
}

pub returns-in_err-copied-clause-untouched : goal.returns-in_err-copied-clause-untouched
returns-in_err-copied-clause-untouched g c = untouched_both c.loop-copied.invariant.untouched c.in_err-copied.ensures.untouched

pub loop-copied-preserved : goal.loop-copied-preserved
loop-copied-preserved g c =
    let view = g.C.Scratch.view in
    record {
      untouched = untouched_both c.loop-copied.invariant.untouched c.in_ok-copied.ensures.untouched;
      size = c.in_ok-copied.ensures.size ∙ c.loop-copied.invariant.size;
      passes = scratch_passes_both c.loop-copied.invariant.passes c.in_ok-copied.ensures.passes;
      ready = c.in_ok-copied.ensures.ready;
      few = c.in_ok-copied.ensures.few;
      within = c.in_ok-copied.ensures.within;
      copied = subst (λ file. IsCopied c.args.layout (view c.copy_piece.new.scratch).told (page_of c.copy_piece.new.pair Second) c.in_ok-copied.copied.at c.in_ok-copied.copied.filling file) (told-same c.args.name.now c.loop-copied.invariant.untouched) c.in_ok-copied.ensures.copied;
    }

pub returns-in-Ok : goal.returns-in-Ok
returns-in-Ok g c = record {
  untouched = c.loop-copied.invariant.untouched;
  size = c.in-Ok.ensures.size ∙ c.loop-copied.invariant.size;
  passes = scratch_passes_both c.loop-copied.invariant.passes c.in-Ok.ensures.passes;
  written = (
      let view = g.C.Scratch.view in
      let within : c.loop-copied.copied.at ≤ c.args.length = c.loop-copied.invariant.within in
      written-all c.args.layout (view c.loop-copied.scratch).told (view c.finish.new.scratch).told (told_file (g.T.Tree.view c.args.tree.now) c.args.name.now) (page_of c.loop-copied.pair Second) c.loop-copied.copied.at c.loop-copied.copied.filling
      c.loop-copied.invariant.copied (λ text file. let len : length text ≡ c.args.length = c.requires.stated text file in omega arith) c.in-Ok.ensures.count c.in-Ok.ensures.pages);
  cause = tt;
}

pub returns-in-Err : goal.returns-in-Err
returns-in-Err g c = record {
  untouched = c.loop-copied.invariant.untouched;
  size = c.in-Err.ensures.size ∙ c.loop-copied.invariant.size;
  passes = scratch_passes_both c.loop-copied.invariant.passes c.in-Err.ensures.passes;
  written = tt;
  cause = (
      let view = g.C.Scratch.view in
      let tree = g.T.Tree.view in
      let within : c.loop-copied.copied.at ≤ c.args.length = c.loop-copied.invariant.within in
      end-fault c.in-Err.fault c.args.layout c.loop-copied.copied.filling (view c.args.scratch.now) (view c.loop-copied.scratch) (view c.finish.new.scratch) (tree c.args.tree.now) (tree c.loop-copied.tree)
      c.loop-copied.invariant.passes c.in-Err.ensures.cause
      (λ other. none-unless _ (λ f told.
      let file : told_file (tree c.args.tree.now) c.args.name.now ≡ Some (bytes_at f c.args.name.now) = rw told refl in
      let len : length (bytes_at f c.args.name.now) ≡ c.args.length = c.requires.stated (bytes_at f c.args.name.now) file in
      copied-count c.args.layout (view c.loop-copied.scratch).told (told_file (tree c.args.tree.now) c.args.name.now) (page_of c.loop-copied.pair Second) (bytes_at f c.args.name.now) c.loop-copied.copied.at c.loop-copied.copied.filling c.loop-copied.invariant.copied file (omega arith) (c.requires.measured (bytes_at f c.args.name.now) file) other)));
}

pub returns-in_err-copied-clause-size : goal.returns-in_err-copied-clause-size
returns-in_err-copied-clause-size g c = c.in_err-copied.ensures.size ∙ c.loop-copied.invariant.size

pub returns-in_err-copied-clause-passes : goal.returns-in_err-copied-clause-passes
returns-in_err-copied-clause-passes g c = scratch_passes_both c.loop-copied.invariant.passes c.in_err-copied.ensures.passes

pub returns-in_err-copied-clause-written : goal.returns-in_err-copied-clause-written
returns-in_err-copied-clause-written g c = on_ok_none _ _ c.from_residual.result c.from_residual.ensures.1

pub copy_piece-requires-clause-layout : goal.copy_piece-requires-clause-layout
copy_piece-requires-clause-layout g c = c.requires.layout

pub copy_piece-requires-clause-ready : goal.copy_piece-requires-clause-ready
copy_piece-requires-clause-ready g c = c.loop-copied.invariant.ready

pub copy_piece-requires-clause-few : goal.copy_piece-requires-clause-few
copy_piece-requires-clause-few g c = c.loop-copied.invariant.few

pub copy_piece-requires-clause-short : goal.copy_piece-requires-clause-short
copy_piece-requires-clause-short g c = c.requires.short

pub finish-requires-clause-layout : goal.finish-requires-clause-layout
finish-requires-clause-layout g c = c.requires.layout

pub finish-requires-clause-ready : goal.finish-requires-clause-ready
finish-requires-clause-ready g c = c.loop-copied.invariant.ready

pub copy_piece-requires-clause-stated : goal.copy_piece-requires-clause-stated
copy_piece-requires-clause-stated g c text told = c.requires.stated text (sym (told-same c.args.name.now c.loop-copied.invariant.untouched) ∙ told)

pub copy_piece-requires-clause-measured : goal.copy_piece-requires-clause-measured
copy_piece-requires-clause-measured g c text told = c.requires.measured text (sym (told-same c.args.name.now c.loop-copied.invariant.untouched) ∙ told)

pub copy_piece-requires-clause-copied : goal.copy_piece-requires-clause-copied
copy_piece-requires-clause-copied g c = subst (IsCopied c.args.layout (g.C.Scratch.view c.loop-copied.scratch).told (page_of c.loop-copied.pair Second) c.loop-copied.copied.at c.loop-copied.copied.filling) (sym (told-same c.args.name.now c.loop-copied.invariant.untouched)) c.loop-copied.invariant.copied
