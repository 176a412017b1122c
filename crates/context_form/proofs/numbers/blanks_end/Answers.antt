use Rattle.std.proofs.Common.{◌∙◌, sym, arith}
use Rattle.context_form.proofs.Spaced.{blank-more, blank-ends}
use Rattle.context_form.proofs.numbers.blanks_end.Goals as goal

pub loop-end-preserved : goal.loop-end-preserved
loop-end-preserved c = record {
  high = omega (arith, c.loop-end-test.true);
  same = sym (blank-more c.args.bytes.now c.loop-end.end c.loop-end-test.true (sym c.if-is_blank.ensures)) ∙ c.loop-end.invariant.same;
}

pub returns-else-is_blank-clause-rest : goal.returns-else-is_blank-clause-rest
returns-else-is_blank-clause-rest c = sym (blank-ends c.args.bytes.now c.loop-end.end (λ _. sym c.if-is_blank.ensures)) ∙ c.loop-end.invariant.same

pub returns-after-loop-end-clause-rest : goal.returns-after-loop-end-clause-rest
returns-after-loop-end-clause-rest c = sym (blank-ends c.args.bytes.now c.loop-end.end (λ lt. absurd (omega arith))) ∙ c.loop-end.invariant.same
