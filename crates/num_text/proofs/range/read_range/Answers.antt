use Rattle.std.proofs.Common.{◌≡◌, get_or, arith}
use Rattle.std.proofs.lemmas.List.{take_rest}
use Rattle.num_text.proofs.Ranges.{range-none, second-none, second-read}
use Rattle.num_text.proofs.range.read_range.Goals as goal

pub returns-in_err-first-clause-exact : goal.returns-in_err-first-clause-exact
returns-in_err-first-clause-exact c = rw c.from_residual.ensures (range-none c.args.bytes.now c.in_err-first.ensures.exact)

pub returns-in_err-first-clause-small : goal.returns-in_err-first-clause-small
returns-in_err-first-clause-small c = rw c.from_residual.ensures tt

pub slice_bounds-more-count : goal.slice_bounds-more-count
slice_bounds-more-count c = c.in-44.len_at_least

pub slice_bounds-more-start : goal.slice_bounds-more-start
slice_bounds-more-start c = c.in-44.len_at_least

pub returns-in_err-last-in-44-clause-exact : goal.returns-in_err-last-in-44-clause-exact
returns-in_err-last-in-44-clause-exact c =
    let comma : get_or c.in_ok-first.rest.now 0 0 ≡ 44 = omega arith in
    rw c.from_residual-in_err-last-in-44.ensures (second-none c.args.bytes.now c.in_ok-first.rest.now c.in_ok-first.first c.in_ok-first.ensures.exact c.in-44.len_at_least comma (rw take_rest at c.in_err-last-in-44.ensures.exact))

pub returns-in_err-last-in-44-clause-small : goal.returns-in_err-last-in-44-clause-small
returns-in_err-last-in-44-clause-small c = rw c.from_residual-in_err-last-in-44.ensures tt

pub returns-in_ok-last-in-44-clause-exact : goal.returns-in_ok-last-in-44-clause-exact
returns-in_ok-last-in-44-clause-exact c =
    let comma : get_or c.in_ok-first.rest.now 0 0 ≡ 44 = omega arith in
    second-read c.args.bytes.now c.in_ok-first.rest.now c.in_ok-first.first c.in_ok-first.ensures.exact c.in-44.len_at_least comma c.in_ok-last-in-44.last c.in_ok-last-in-44.rest.now c.is_below.result
    (rw take_rest at c.in_ok-last-in-44.ensures.exact) (rw take_rest at c.is_below.ensures)

pub returns-in_ok-last-in-44-clause-small : goal.returns-in_ok-last-in-44-clause-small
returns-in_ok-last-in-44-clause-small c = record { first = c.in_ok-first.ensures.small; last = c.in_ok-last-in-44.ensures.small }

pub returns-in_default-clause-small : goal.returns-in_default-clause-small
returns-in_default-clause-small c = record { first = c.in_ok-first.ensures.small; last = c.in_ok-first.ensures.small }
