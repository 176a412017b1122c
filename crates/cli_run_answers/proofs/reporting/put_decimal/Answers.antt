use Rattle.std.proofs.Common.{List, ap, length, sym, ℕ, ◌∙◌}
use Rattle.cli_run_answers.proofs.Writes.{decimal-put}
use Rattle.cli_run_answers.proofs.reporting.put_decimal.Goals as goal

pub returns-in-Some-clause-writes : goal.returns-in-Some-clause-writes
returns-in-Some-clause-writes g c =
    let put = c.put_all.ensures in
    decimal-put c.put_all.result c.args.value c.in-Some.value _ c.in-Some.is c.put_number-count.ensures.digits (record { call = put.call; received = put.received; failed = put.failed })

pub returns-in-Some-clause-rest : goal.returns-in-Some-clause-rest
returns-in-Some-clause-rest g c = c.put_all.ensures.rest

pub slice_bounds-put_all-end : goal.slice_bounds-put_all-end
slice_bounds-put_all-end g c = c.put_number-count.ensures.count ∙ sym (ap (λ (l : List ℕ). length l) c.put_number-count.ensures.digits)

pub returns-in-None-clause-rest : goal.returns-in-None-clause-rest
returns-in-None-clause-rest g c = g.met.E.Sink.rest_none c.args.err.now
