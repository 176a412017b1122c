use Rattle.std.proofs.Common.{sym, ◌∙◌, arith}
use Rattle.stamp.proofs.Fractions.{digit-within, worth-step, worth-end, worth-room, sum-on, sum-end}
use Rattle.stamp.proofs.billionths.Goals as goal

pub overflow_add-place : goal.overflow_add-place
overflow_add-place c = omega (arith, digit-within c.args.text.now c.loop-digit.place c.in-Some.digit (sym c.in-Some.ensures.value))

pub loop-digit-smaller : goal.loop-digit-smaller
loop-digit-smaller c = omega (arith, digit-within c.args.text.now c.loop-digit.place c.in-Some.digit (sym c.in-Some.ensures.value))

pub loop-digit-preserved : goal.loop-digit-preserved
loop-digit-preserved c =
    let room = worth-room c.loop-digit.value c.loop-digit.unit c.in-Some.digit c.in-Some.ensures.bound c.loop-digit.invariant.bound c.loop-digit.invariant.room in
    record {
      same = sum-on c.loop-digit.value _ _ _ (worth-step c.args.text.now c.loop-digit.place c.in-Some.digit c.loop-digit.unit (sym c.in-Some.ensures.value)) ∙ c.loop-digit.invariant.same;
      bound = room.0;
      room = room.1;
    }

pub returns-clause-value : goal.returns-clause-value
returns-clause-value c = sum-end c.loop-digit.value (worth-end c.args.text.now c.loop-digit.place c.loop-digit.unit (sym c.in_default.ensures.value)) ∙ c.loop-digit.invariant.same
