use Rattle.std.proofs.Common.{arith}
use Rattle.std.specs.Option.{option_copied}
use Rattle.patch_set.proofs.Skipping.{looked-none, looked-more, looked-all}
use Rattle.patch_set.proofs.skipped.skipped_from.Goals as goal

pub lines-init : goal.lines-init
lines-init c = rw c.new-found.ensures.items (looked-none c.args.text.now c.args.patches.now)

pub outside_from-next-requires : goal.outside_from-next-requires
outside_from-next-requires c = c.lines.invariant.next_within

pub lines-preserved : goal.lines-preserved
lines-preserved c =
    let here = c.lines.here in
    let search = c.outside_from-next.ensures in
    looked-more c.args.text.now c.args.patches.now c.lines.found.items c.keep_if.new.found.items here.at here.number here.next c.in-Some.end c.outside_from-next.result.0
    (option_copied c.lines.names) (option_copied c.names_on-names.result) c.outside_from-next.result.1 c.is_skipped-is_skipped.result
    c.lines.invariant c.in-Some.ensures (record { within = search.within; behind = search.behind }) search.outside c.is_skipped-is_skipped.ensures c.in_ok-keep_if.ensures c.names_on-names.ensures

pub returns : goal.returns
returns c = looked-all c.args.text.now c.args.patches.now c.lines.found.items c.lines.here.at c.lines.here.number c.lines.here.next (option_copied c.lines.names) c.lines.invariant c.in_default.ensures.1

pub overflow_add-here : goal.overflow_add-here
overflow_add-here c = omega arith

pub lines-smaller : goal.lines-smaller
lines-smaller c = omega (arith, c.in-Some.ensures.low, c.in-Some.ensures.high)

pub next_line-requires : goal.next_line-requires
next_line-requires c = c.lines.invariant.within

pub slice_bounds-line-end : goal.slice_bounds-line-end
slice_bounds-line-end c = c.in-Some.ensures.high

pub slice_bounds-line-start : goal.slice_bounds-line-start
slice_bounds-line-start c = omega (arith, c.in-Some.ensures.low)

pub slice_bounds-line-count : goal.slice_bounds-line-count
slice_bounds-line-count c = omega (arith, c.in-Some.ensures.low)
