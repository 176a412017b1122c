use Rattle.std.proofs.Common.{◌≡◌, ◌+◌, ◌-◌, ◌*◌, ◌<◌, ◌≤◌, ℕ, List, length, min, take, drop, refl, sym, ap, subst, ◌∙◌, arith, length-take}
use Rattle.std.proofs.lemmas.List.{length-take}
use Rattle.line_store.specs.declared.Half.TheVariants.{First, Second}
use Rattle.outside.specs.ScratchView.{scratch_passes_none, scratch_passes_both}
use Rattle.page_pair.specs.Pair.{page_of}
use Rattle.page_pair.specs.Reading.{IsWhole}
use Rattle.plan_b.proofs.Copyings.{copies-none, copies-more, copies-wide, copy-fault}
use Rattle.page_pair.proofs.Windows.{part-of-front}
use Rattle.plan_b.proofs.Reached.{page-length}
use Rattle.plan_b.proofs.copying.copy_lines.Goals as goal

pub loop-end-init : goal.loop-end-init
loop-end-init g c = record {
  size = refl;
  first = refl;
  passes = scratch_passes_none _;
  ready = c.requires.ready;
  count = omega arith;
  within = omega arith;
  copies = copies-none c.args.layout (g.C.Scratch.view c.args.scratch.now).told (page_of c.args.pair.now Second) c.args.filling (take c.args.got (page_of c.args.pair.now First)) c.args.is_last;
}

pub returns-in-Err : goal.returns-in-Err
returns-in-Err g c = record {
  size = c.in-Err.ensures.size ∙ c.loop-end.invariant.size;
  passes = scratch_passes_both c.loop-end.invariant.passes c.in-Err.ensures.passes;
  ready = tt;
  count = tt;
  within = tt;
  left = tt;
  copies = tt;
  cause = (
      let view = g.C.Scratch.view in
      let piece : List ℕ = take c.args.got (page_of c.args.pair.now First) in
      let whole : IsWhole (take c.args.got (page_of c.args.pair.now First)) c.args.is_last c.loop-end.at c.in-Some.end =
      subst (λ p. IsWhole (take c.args.got p) c.args.is_last c.loop-end.at c.in-Some.end) (c.page.ensures.is ∙ c.loop-end.invariant.first) c.in-Some.ensures in
      copy-fault c.in-Err.fault c.args.layout (view c.args.scratch.now) (view c.loop-end.scratch) (view c.copy_line.new.scratch) (c.in-Some.end - c.loop-end.at) (take c.args.got (page_of c.args.pair.now First)) c.args.is_last
      c.loop-end.invariant.passes c.in-Err.ensures.cause
      (λ wide text start part. copies-wide c.args.layout _ _ _ _ _ _ (take c.args.got (page_of c.args.pair.now First)) c.args.is_last c.loop-end.at c.in-Some.end c.loop-end.invariant.copies whole wide text start part));
}

pub loop-end-preserved : goal.loop-end-preserved
loop-end-preserved g c =
    let view = g.C.Scratch.view in
    let n : length (take c.args.got (page_of c.args.pair.now First)) ≡ min c.args.got (length (page_of c.args.pair.now First)) = length-take c.args.got (page_of c.args.pair.now First) in
    let whole : IsWhole (take c.args.got (page_of c.args.pair.now First)) c.args.is_last c.loop-end.at c.in-Some.end =
    subst (λ p. IsWhole (take c.args.got p) c.args.is_last c.loop-end.at c.in-Some.end) (c.page.ensures.is ∙ c.loop-end.invariant.first) c.in-Some.ensures in
    let low : c.loop-end.at < c.in-Some.end = whole.low in
    let high : c.in-Some.end ≤ length (take c.args.got (page_of c.args.pair.now First)) = whole.high in
    let one : c.in-Ok.next.pages * c.args.layout.per_page + c.in-Ok.next.records ≡ c.loop-end.now.pages * c.args.layout.per_page + c.loop-end.now.records + 1 = c.in-Ok.ensures.count in
    let many : c.loop-end.now.pages * c.args.layout.per_page + c.loop-end.now.records ≤ c.args.filling.pages * c.args.layout.per_page + c.args.filling.records + c.loop-end.at = c.loop-end.invariant.count in
    record {
      size = c.in-Ok.ensures.size ∙ c.loop-end.invariant.size;
      first = c.in-Ok.ensures.first ∙ c.loop-end.invariant.first;
      passes = scratch_passes_both c.loop-end.invariant.passes c.in-Ok.ensures.passes;
      ready = c.in-Ok.ensures.ready;
      count = omega arith;
      within = omega arith;
      copies = copies-more c.args.layout (view c.args.scratch.now).told (view c.loop-end.scratch).told (view c.copy_line.new.scratch).told (page_of c.args.pair.now Second) (page_of c.loop-end.pair Second) (page_of c.copy_line.new.pair Second)
          c.args.filling c.loop-end.now c.in-Ok.next (take c.args.got (page_of c.args.pair.now First)) c.args.is_last c.loop-end.at c.in-Some.end (take (c.in-Some.end - c.loop-end.at) (drop c.loop-end.at (page_of c.loop-end.pair First)))
          c.loop-end.invariant.copies whole
          (part-of-front (c.in-Some.end - c.loop-end.at) c.loop-end.at c.args.got (page_of c.args.pair.now First) (omega arith) ∙ ap (λ p. take (c.in-Some.end - c.loop-end.at) (drop c.loop-end.at p)) (sym c.loop-end.invariant.first))
          c.in-Ok.ensures.filled;
    }

pub returns-clause-size : goal.returns-clause-size
returns-clause-size g c = c.loop-end.invariant.size

pub returns-clause-passes : goal.returns-clause-passes
returns-clause-passes g c = c.loop-end.invariant.passes

pub returns-clause-ready : goal.returns-clause-ready
returns-clause-ready g c = c.loop-end.invariant.ready

pub returns-clause-count : goal.returns-clause-count
returns-clause-count g c = c.loop-end.invariant.count

pub returns-clause-within : goal.returns-clause-within
returns-clause-within g c = c.loop-end.invariant.within

pub returns-clause-copies : goal.returns-clause-copies
returns-clause-copies g c = c.loop-end.invariant.copies

pub returns-clause-cause : goal.returns-clause-cause
returns-clause-cause g c = tt

pub copy_line-requires-clause-layout : goal.copy_line-requires-clause-layout
copy_line-requires-clause-layout g c = c.requires.layout

pub copy_line-requires-clause-size : goal.copy_line-requires-clause-size
copy_line-requires-clause-size g c = c.requires.size ∙ sym c.loop-end.invariant.size

pub copy_line-requires-clause-ready : goal.copy_line-requires-clause-ready
copy_line-requires-clause-ready g c = c.loop-end.invariant.ready

pub slice_bounds-whole_line-end : goal.slice_bounds-whole_line-end
slice_bounds-whole_line-end g c = omega (arith, length-take c.args.got c.page.result.now, c.requires.within, c.loop-end.invariant.size, ap length c.page.ensures.is, page-length c.loop-end.pair First c.page.ensures.pair)

pub copy_line-requires-clause-low : goal.copy_line-requires-clause-low
copy_line-requires-clause-low g c = omega (arith, c.in-Some.ensures.low)

pub copy_line-requires-clause-high : goal.copy_line-requires-clause-high
copy_line-requires-clause-high g c = omega (arith, c.in-Some.ensures.high, length-take c.args.got c.page.result.now, c.requires.within, c.loop-end.invariant.size)

pub copy_line-requires-clause-few : goal.copy_line-requires-clause-few
copy_line-requires-clause-few g c = omega (arith, c.in-Some.ensures.low, c.in-Some.ensures.high, length-take c.args.got c.page.result.now, c.requires.few, c.loop-end.invariant.count)

pub whole_line-requires : goal.whole_line-requires
whole_line-requires g c = omega (arith, c.loop-end.invariant.within, length-take c.args.got c.page.result.now, c.requires.within, c.loop-end.invariant.size, ap length c.page.ensures.is, page-length c.loop-end.pair First c.page.ensures.pair)

pub loop-end-smaller : goal.loop-end-smaller
loop-end-smaller g c = omega (arith, c.in-Some.ensures.low, c.in-Some.ensures.high, length-take c.args.got c.page.result.now)
