use Rattle.std.proofs.Common.{◌≡◌, ◌-◌, length, Some, subst, sym, ◌∙◌}
use Rattle.std.specs.List.{All, slice_get}
use Rattle.std.proofs.lemmas.List.Elements.{All-take}
use Rattle.std.proofs.lemmas.Option.{slice_get_within, get_or_from_slice_get}
use Rattle.packed_pages.specs.Marks.{IsMark}
use Rattle.packed_pages.proofs.marks.last_within.Goals as goal

pub returns-then-mark-before-clause-is : goal.returns-then-mark-before-clause-is
returns-then-mark-before-clause-is c page are =
    let now = c.as_slice.result.now in
    let last : slice_get c.as_slice.result.now (length c.as_slice.result.now - 1) ≡ Some c.in-Some.mark = sym c.last.ensures.value ∙ sym c.copied.ensures ∙ c.in-Some.is in
    let all : All (IsMark page) c.as_slice.result.now = subst (All (IsMark page)) (sym c.as_slice.ensures.value) (c.loop-mark.invariant page are) in
    subst (IsMark page) (get_or_from_slice_get now (length now - 1) c.in-Some.mark c.in-Some.mark last) (all (length now - 1) c.in-Some.mark (slice_get_within now (length now - 1) c.in-Some.mark last))

pub loop-mark-preserved : goal.loop-mark-preserved
loop-mark-preserved c page are = subst (All (IsMark page)) (sym c.pop.ensures.rest) (All-take (IsMark page) (length c.loop-mark.marks.items - 1) c.loop-mark.marks.items (c.loop-mark.invariant page are))
