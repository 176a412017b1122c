use Rattle.context_form.proofs.Capped.{spaced-none, BehindFirst, single-read, later-none, later-read}
use Rattle.context_form.proofs.numbers.read_spaced.Goals as goal

pub returns-in_err-first-clause-exact : goal.returns-in_err-first-clause-exact
returns-in_err-first-clause-exact c = rw c.from_residual.ensures (spaced-none c.args.bytes.now c.skip_blanks-bytes.result.now c.skip_blanks-bytes.ensures c.in_err-first.ensures.exact)

pub returns-in_err-first-clause-small : goal.returns-in_err-first-clause-small
returns-in_err-first-clause-small c = rw c.from_residual.ensures tt

pub returns-in_err-last-in-Some-clause-exact : goal.returns-in_err-last-in-Some-clause-exact
returns-in_err-last-in-Some-clause-exact c =
    let k : BehindFirst c.args.bytes.now c.skip_blanks-bytes.result.now c.in_ok-first.rest.now c.in_ok-first.first c.skip_blanks-rest.result.now = record { front_is = c.skip_blanks-bytes.ensures; read = c.in_ok-first.ensures.exact; behind_is = c.skip_blanks-rest.ensures } in
    rw c.from_residual-in_err-last-in-Some.ensures (later-none c.args.bytes.now c.skip_blanks-bytes.result.now c.in_ok-first.rest.now c.in_ok-first.first c.skip_blanks-rest.result.now k c.in-Some.more.now c.in-Some.ensures c.skip_blanks-more.result.now c.skip_blanks-more.ensures c.in_err-last-in-Some.ensures.exact)

pub returns-in_err-last-in-Some-clause-small : goal.returns-in_err-last-in-Some-clause-small
returns-in_err-last-in-Some-clause-small c = rw c.from_residual-in_err-last-in-Some.ensures tt

pub returns-in_ok-last-in-Some-clause-exact : goal.returns-in_ok-last-in-Some-clause-exact
returns-in_ok-last-in-Some-clause-exact c =
    let k : BehindFirst c.args.bytes.now c.skip_blanks-bytes.result.now c.in_ok-first.rest.now c.in_ok-first.first c.skip_blanks-rest.result.now = record { front_is = c.skip_blanks-bytes.ensures; read = c.in_ok-first.ensures.exact; behind_is = c.skip_blanks-rest.ensures } in
    later-read c.args.bytes.now c.skip_blanks-bytes.result.now c.in_ok-first.rest.now c.in_ok-first.first c.skip_blanks-rest.result.now k c.in-Some.more.now c.in-Some.ensures c.skip_blanks-more.result.now c.skip_blanks-more.ensures c.in_ok-last-in-Some.last c.in_ok-last-in-Some.rest.now c.skip_blanks.result.now c.is_below.result c.in_ok-last-in-Some.ensures.exact
    c.skip_blanks.ensures c.is_below.ensures

pub returns-in_ok-last-in-Some-clause-small : goal.returns-in_ok-last-in-Some-clause-small
returns-in_ok-last-in-Some-clause-small c = record { first = c.in_ok-first.ensures.small; last = c.in_ok-last-in-Some.ensures.small }

pub returns-in-None-clause-exact : goal.returns-in-None-clause-exact
returns-in-None-clause-exact c =
    let k : BehindFirst c.args.bytes.now c.skip_blanks-bytes.result.now c.in_ok-first.rest.now c.in_ok-first.first c.skip_blanks-rest.result.now = record { front_is = c.skip_blanks-bytes.ensures; read = c.in_ok-first.ensures.exact; behind_is = c.skip_blanks-rest.ensures } in
    single-read c.args.bytes.now c.skip_blanks-bytes.result.now c.in_ok-first.rest.now c.in_ok-first.first c.skip_blanks-rest.result.now k c.in-None.ensures

pub returns-in-None-clause-small : goal.returns-in-None-clause-small
returns-in-None-clause-small c = record { first = c.in_ok-first.ensures.small; last = c.in_ok-first.ensures.small }
