use Rattle.std.proofs.Common.{◌≡◌, ◌+◌, ◌-◌, ◌∙◌, Some, sym, subst, refl, inl, inr, arith}
use Rattle.packed_pages.specs.Marks.{IsMark, marks_of}
use Rattle.packed_pages.specs.Held.{IfStart}
use Rattle.packed_pages.proofs.loading.held_start.Goals as goal

pub returns : goal.returns
returns c = record {
  start = (
      let first = c.in-Some.place.first in
      let before = c.back_to-mark.result.before in
      let low : first + before - first ≡ before = omega arith in
      subst (λ o. IfStart o (marks_of c.args.marks.now c.args.half) c.args.k (Some (record { line = first + before; at = c.back_to-mark.result.at; first = first; next = c.in-Some.place.next; page = c.in-Some.place.page }))) (sym (sym c.get.ensures ∙ c.in-Some.is))
      (record {
        first = refl;
        next = refl;
        page = refl;
        low = omega (arith, c.back_to-mark.ensures.order, c.if-k-place.false);
        high = omega arith;
        place = inr (record {
          low = omega arith;
          is = λ page marks. subst (λ n. IsMark page (record { before = n; at = c.back_to-mark.result.at })) (sym low) (c.back_to-mark.ensures.is page marks);
        });
      }));
  marked = c.back_to-mark.ensures.marked;
}

pub returns-then-place-k-clause-start : goal.returns-then-place-k-clause-start
returns-then-place-k-clause-start c = subst (λ o. IfStart o (marks_of c.args.marks.now c.args.half) c.args.k (Some c.in-Some.place)) (sym (sym c.get.ensures ∙ c.in-Some.is))
    (record { first = refl; next = refl; page = refl; low = c.if-place-k.true; high = omega arith; place = inl refl })
