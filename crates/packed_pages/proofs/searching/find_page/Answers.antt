use Rattle.outside.proofs.Exits.{if_ok_none}
use Rattle.std.proofs.Common.{◌-◌, refl, ◌∙◌, arith, sym}
use Rattle.outside.specs.ScratchView.{scratch_passes_none, scratch_passes_both}
use Rattle.packed_pages.proofs.Spans.{span-all, reads-half}
use Rattle.packed_pages.proofs.searching.find_page.Goals as goal

pub loop-span-init : goal.loop-span-init
loop-span-init g c = record {
  passes = scratch_passes_none _;
  told = refl;
  reads = λ digits lt. record { left = digits; enough = omega arith; reads = omega arith };
  span = record { some = c.requires.layout.some (omega arith); high = omega arith; first = c.requires.low; next = omega arith };
  entries = λ b told. span-all c.args.layout b c.requires.layout (c.requires.packs b told);
}

pub loop-span-preserved : goal.loop-span-preserved
loop-span-preserved g c =
    let view = g.C.Scratch.view in
    record {
      passes = scratch_passes_both c.loop-span.invariant.passes c.in_ok-span.ensures.passes;
      told = c.in_ok-span.ensures.told ∙ c.loop-span.invariant.told;
      reads = λ digits lt. reads-half (c.loop-span.span.high - c.loop-span.span.low) (c.in_ok-span.span.high - c.in_ok-span.span.low) digits (view c.args.scratch.now) (view c.loop-span.scratch) (view c.halve.new.scratch) (c.loop-span.invariant.reads digits lt) (omega arith) c.in_ok-span.ensures.half c.in_ok-span.ensures.reads;
      span = c.in_ok-span.ensures.span;
      entries = λ b told. c.in_ok-span.ensures.entries b (c.loop-span.invariant.told ∙ told);
    }

pub returns-in_err-span-clause-passes : goal.returns-in_err-span-clause-passes
returns-in_err-span-clause-passes g c = scratch_passes_both c.loop-span.invariant.passes c.in_err-span.ensures.passes

pub returns-in_err-span-clause-told : goal.returns-in_err-span-clause-told
returns-in_err-span-clause-told g c = c.in_err-span.ensures.told ∙ c.loop-span.invariant.told

pub returns-in_err-span-clause-span : goal.returns-in_err-span-clause-span
returns-in_err-span-clause-span g c = if_ok_none _ _ c.from_residual.result c.from_residual.ensures.1

pub returns-in_err-span-clause-one : goal.returns-in_err-span-clause-one
returns-in_err-span-clause-one g c = if_ok_none _ _ c.from_residual.result c.from_residual.ensures.1

pub returns-in_err-span-clause-entries : goal.returns-in_err-span-clause-entries
returns-in_err-span-clause-entries g c = if_ok_none _ _ c.from_residual.result c.from_residual.ensures.1

pub returns-clause-passes : goal.returns-clause-passes
returns-clause-passes g c = c.loop-span.invariant.passes

pub returns-clause-told : goal.returns-clause-told
returns-clause-told g c = c.loop-span.invariant.told

pub returns-clause-span : goal.returns-clause-span
returns-clause-span g c = c.loop-span.invariant.span

pub returns-clause-entries : goal.returns-clause-entries
returns-clause-entries g c = c.loop-span.invariant.entries

pub returns-clause-cause : goal.returns-clause-cause
returns-clause-cause g c = tt

pub halve-requires-clause-layout : goal.halve-requires-clause-layout
halve-requires-clause-layout g c = c.requires.layout

pub halve-requires-clause-span : goal.halve-requires-clause-span
halve-requires-clause-span g c = c.loop-span.invariant.span

pub halve-requires-clause-packs : goal.halve-requires-clause-packs
halve-requires-clause-packs g c b told = c.requires.packs b (sym c.loop-span.invariant.told ∙ told)
