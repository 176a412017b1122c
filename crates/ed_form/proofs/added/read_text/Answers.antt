use Rattle.std.proofs.Common.{drop, arith, sym, subst}
use Rattle.std.specs.Prelude.{All}
use Rattle.std.proofs.lemmas.Result.{err_from_is_err_and, IfOk-from_err}
use Rattle.line_list.specs.Lines.{lines}
use Rattle.ed_form.specs.PlainEdit.{lines_of}
use Rattle.ed_form.proofs.TextLoops.{text-goes-on, taken-there, stops-there, text-open, text-closed}
use Rattle.hunk_core.specs.Turned.{LiesIn}
use Rattle.ed_form.proofs.Bounds.{low-end, nearer, short-fits, number-fits, next-place}
use Rattle.ed_form.proofs.added.read_text.Goals as goal

pub returns-in_err-part-clause-exact : goal.returns-in_err-part-clause-exact
returns-in_err-part-clause-exact c =
    let p = err_from_is_err_and c.from_residual.result c.from_residual.ensures.1 in
    rw (p.1, p.2, c.in_err-part.ensures.memory) tt

pub lines-preserved : goal.lines-preserved
lines-preserved c = record {
  place = next-place c.lines.invariant.place c.in-Some.ensures.0;
  later = omega (arith, c.in-Some.ensures.0.low, c.lines.invariant.later);
  few = omega (arith, c.in-Some.ensures.0.low, c.lines.invariant.few, c.in_ok-part.ensures.few);
  lies = c.in_ok-part.ensures.lies;
  same = text-goes-on c.args.opened c.lines.part c.in_ok-part.part (lines_of c.args.text.now c.lines.added.items) (lines_of c.args.text.now c.take_line.new.added.items) c.lines.place.number _ _ _ _ c.in-Some.ensures.0.first (taken-there c.args.text.now c.lines.part c.lines.added.items c.deref.result.now _ c.deref.ensures.value c.in-Some.ensures.1) c.in_ok-part.ensures.exact c.lines.invariant.same;
}

pub returns-then-lacks_end-clause-exact : goal.returns-then-lacks_end-clause-exact
returns-then-lacks_end-clause-exact c =
    let none = stops-there c.args.text.now c.lines.part c.lines.added.items c.deref.result.now (lines (drop c.lines.place.at c.args.text.now)) c.deref.ensures.value c.in_default.ensures in
    rw c.bad.ensures (text-open c.args.opened c.lines.part (lines_of c.args.text.now c.lines.added.items) c.lines.place.number _ _ none c.if-lacks_end.ensures c.lines.invariant.same)

pub returns-clause-exact : goal.returns-clause-exact
returns-clause-exact c =
    let none = stops-there c.args.text.now c.lines.part c.lines.added.items c.deref.result.now (lines (drop c.lines.place.at c.args.text.now)) c.deref.ensures.value c.in_default.ensures in
    text-closed c.args.opened c.lines.part (lines_of c.args.text.now c.lines.added.items) c.lines.place.number _ _ none c.if-lacks_end.ensures c.lines.invariant.same

pub end_of_next-requires-clause-within : goal.end_of_next-requires-clause-within
end_of_next-requires-clause-within c = c.lines.invariant.place.within

pub end_of_next-requires-clause-lies : goal.end_of_next-requires-clause-lies
end_of_next-requires-clause-lies c = subst (λ l. All (LiesIn c.args.text.now) l) (sym c.deref.ensures.value) c.lines.invariant.lies

pub overflow_cast-span : goal.overflow_cast-span
overflow_cast-span c = short-fits _ _ c.lines.invariant.place.within c.requires.short

pub overflow_cast-span-in-Some : goal.overflow_cast-span-in-Some
overflow_cast-span-in-Some c = short-fits _ _ c.in-Some.ensures.0.high c.requires.short

pub take_line-requires-clause-short : goal.take_line-requires-clause-short
take_line-requires-clause-short c = c.requires.short

pub take_line-requires-clause-lies : goal.take_line-requires-clause-lies
take_line-requires-clause-lies c = c.lines.invariant.lies

pub take_line-requires-clause-span : goal.take_line-requires-clause-span
take_line-requires-clause-span c = (low-end c.in-Some.ensures.0, c.in-Some.ensures.0.high)

pub take_line-requires-clause-taken : goal.take_line-requires-clause-taken
take_line-requires-clause-taken c = taken-there c.args.text.now c.lines.part c.lines.added.items c.deref.result.now _ c.deref.ensures.value c.in-Some.ensures.1

pub returns-in_err-part-clause-place : goal.returns-in_err-part-clause-place
returns-in_err-part-clause-place c = IfOk-from_err c.from_residual.result _ c.from_residual.ensures.0

pub returns-in_err-part-clause-few : goal.returns-in_err-part-clause-few
returns-in_err-part-clause-few c = IfOk-from_err c.from_residual.result _ c.from_residual.ensures.0

pub returns-in_err-part-clause-lies : goal.returns-in_err-part-clause-lies
returns-in_err-part-clause-lies c = IfOk-from_err c.from_residual.result _ c.from_residual.ensures.0

pub overflow_add-place : goal.overflow_add-place
overflow_add-place c = number-fits c.lines.invariant.place

pub lines-smaller : goal.lines-smaller
lines-smaller c = nearer c.in-Some.ensures.0

pub returns-then-lacks_end-clause-place : goal.returns-then-lacks_end-clause-place
returns-then-lacks_end-clause-place c = tt

pub returns-then-lacks_end-clause-few : goal.returns-then-lacks_end-clause-few
returns-then-lacks_end-clause-few c = tt

pub returns-then-lacks_end-clause-lies : goal.returns-then-lacks_end-clause-lies
returns-then-lacks_end-clause-lies c = tt

pub returns-clause-place : goal.returns-clause-place
returns-clause-place c = (c.lines.invariant.place, c.lines.invariant.later)

pub returns-clause-few : goal.returns-clause-few
returns-clause-few c = omega (arith, c.lines.invariant.few, c.lines.added.ok.0)

pub returns-clause-lies : goal.returns-clause-lies
returns-clause-lies c = c.lines.invariant.lies
