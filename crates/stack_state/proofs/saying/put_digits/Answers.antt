use Rattle.std.proofs.Common.{List, ap, length, sym, ℕ, ◌∙◌}
use Rattle.num_text.specs.Numbers.{decimal}
use Rattle.outside.proofs.Writing.{writes_is}
use Rattle.stack_state.proofs.saying.put_digits.Goals as goal

pub returns : goal.returns
returns g c = record {
  writes = writes_is c.put_all.result (decimal c.args.number) (record { call = c.put_all.ensures.call; received = c.put_all.ensures.received; failed = c.put_all.ensures.failed }) (c.put_number-count.ensures.digits ∙ ap decimal c.from.ensures);
  rest = c.put_all.ensures.rest;
}

pub slice_bounds-put_all-end : goal.slice_bounds-put_all-end
slice_bounds-put_all-end g c = c.put_number-count.ensures.count ∙ sym (ap (λ (l : List ℕ). length l) c.put_number-count.ensures.digits)
