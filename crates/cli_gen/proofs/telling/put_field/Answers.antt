use Rattle.std.proofs.Common.{List, ℕ, length, sym, ap, subst, ◌∙◌}
use Rattle.num_text.specs.Numbers.{decimal}
use Rattle.outside.specs.SinkView.{Writes}
use Rattle.outside.specs.declared.Failed.{Failed}
use Rattle.outside.proofs.Writing.{stop_all, then_all}
use Rattle.cli_gen.proofs.telling.put_field.Goals as goal

pub returns-in_err-put_all : goal.returns-in_err-put_all
returns-in_err-put_all g c = record {
  writes = stop_all c.in_err-put_all.field-0.0 c.from_residual.result c.args.label.now (decimal c.args.number) c.from_residual.ensures.0 c.in_err-put_all.ensures.call c.in_err-put_all.ensures.failed;
  rest = c.put_all.ensures.rest;
}

pub returns : goal.returns
returns g c = record {
  writes = then_all c.in_ok-put_all.field-0 c.put_all-2.result c.args.label.now (decimal c.args.number) c.in_ok-put_all.ensures.call c.in_ok-put_all.ensures.received
      (subst (λ (l : List ℕ). Writes {R = Unit {0}} {E = Failed} (g.O.Sink.view c.put_all.new.out) (g.O.Sink.view c.put_all-2.new.out) c.put_all-2.result l) c.put_number-count.ensures.digits
      (record { call = c.put_all-2.ensures.call; received = c.put_all-2.ensures.received; failed = c.put_all-2.ensures.failed }));
  rest = g.met.O.Sink.rest_both _ _ _ c.put_all.ensures.rest c.put_all-2.ensures.rest;
}

pub slice_bounds-put_all-end : goal.slice_bounds-put_all-end
slice_bounds-put_all-end g c = c.put_number-count.ensures.count ∙ sym (ap (λ (l : List ℕ). length l) c.put_number-count.ensures.digits)
