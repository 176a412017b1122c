use Rattle.std.proofs.Common.{sym, ◌∙◌, arith}
use Rattle.std.proofs.lemmas.Bool.{false≢true}
use Rattle.numbered_name.proofs.Endings.{is-number, no-number}
use Rattle.numbered_name.proofs.number_of.Goals as goal
use Rattle.numbered_name.proofs.number_of.Goals.{else-number-lt18446744073709551615-via-then-number-lt18446744073709551615+else-is_decimal, else-number-lt18446744073709551615-via-else-number-lt18446744073709551615}

pub returns-then-is_decimal : goal.returns-then-is_decimal
returns-then-is_decimal c =
    is-number c.args.name.now c.args.entry.now c.in-Some.digits.now c.value_of-number.result c.in-Some.ensures (c.is_decimal.ensures.0 c.if-is_decimal.true) c.if-number-lt18446744073709551615.true c.value_of-number.ensures

pub returns-else-number-lt18446744073709551615 : goal.returns-else-number-lt18446744073709551615
returns-else-number-lt18446744073709551615 c =
    no-number c.args.name.now c.args.entry.now c.in-Some.digits.now c.value_of-number.result c.in-Some.ensures c.value_of-number.ensures
    (elim c.else-number-lt18446744073709551615.branch [
      | else-number-lt18446744073709551615-via-then-number-lt18446744073709551615+else-is_decimal w ↦ λ same small. false≢true (sym w.if-is_decimal.false ∙ w.is_decimal.ensures.1 same)
      | else-number-lt18446744073709551615-via-else-number-lt18446744073709551615 w ↦ λ same small. absurd (omega (arith, small, w.if-number-lt18446744073709551615.false))
    ])
