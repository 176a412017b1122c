use Rattle.std.proofs.Common.{sym, arith}
use Rattle.stamp.proofs.Parts.{fraction-then, fraction-else, fraction-plain, stands-within}
use Rattle.stamp.proofs.fraction_end.Goals as goal

pub returns-then-end-at-clause-rest : goal.returns-then-end-at-clause-rest
returns-then-end-at-clause-rest c =
    let e = c.digits_end-end.ensures in
    fraction-then c.args.text.now c.args.at c.digits_end-end.result e.high e.low e.rest (sym c.if-is_byte.ensures) c.if-end-at.true

pub returns-else-end-at-clause-rest : goal.returns-else-end-at-clause-rest
returns-else-end-at-clause-rest c =
    let e = c.digits_end-end.ensures in
    fraction-else c.args.text.now c.args.at c.digits_end-end.result e.high e.low e.rest c.if-end-at.false

pub digits_end-end-requires : goal.digits_end-end-requires
digits_end-end-requires c = stands-within c.args.text.now c.args.at 46 (sym c.if-is_byte.ensures) (omega arith)

pub returns-else-is_byte-clause-rest : goal.returns-else-is_byte-clause-rest
returns-else-is_byte-clause-rest c = fraction-plain c.args.text.now c.args.at (sym c.if-is_byte.ensures)
