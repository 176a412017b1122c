use Rattle.std.proofs.Common.{◌≤◌, ℕ, List, length, None, Ok, sym, subst, ap, ◌∙◌}
use Rattle.cli_run_answers.specs.Input.{IsAnswer}
use Rattle.filter_whole_text.specs.declared.fault.FilterFault.TheVariants as faults
use Rattle.filter_whole_text.proofs.Gathering.{fault-is}
use Rattle.filter_whole_text.proofs.Recounting.{counts-unread, counts-refused, counts-written, counts-cut}
use Rattle.filter_whole_text.proofs.counting.run_recount.Goals as goal

pub returns-in_err-text : goal.returns-in_err-text
returns-in_err-text g c = record {
  sifts = let e = c.in_err-text.field-0.0 in
      rw (fault-is c.from_residual.result (faults.Input e) c.from_residual.ensures.1)
      (counts-unread c.args.input.now _ _ _ _ c.read_input.ensures.untouched c.read_input.ensures.passes c.read_input.ensures.taken _ e c.in_err-text.ensures.cause);
  unread = c.read_input.ensures.source;
  rest = g.met.O.Sink.rest_none c.args.out.now;
}

pub recount-requires : goal.recount-requires
recount-requires g c = subst (λ (l : List ℕ). length l ≤ 268435456) (sym c.deref.ensures.value) c.in_ok-text.ensures.short

pub returns-in-Err : goal.returns-in-Err
returns-in-Err g c = record {
  sifts = let i = c.args.input.now in
      let t = g.T.Tree.view c.args.tree.now in
      let a = g.I.Source.view c.args.source.now in
      let is = subst (λ (l : List ℕ). IsAnswer (Ok l) i None t a) (sym c.deref.ensures.value) c.in_ok-text.ensures.text in
      rw c.from.ensures (counts-refused i t _ a _ c.read_input.ensures.untouched c.read_input.ensures.passes c.read_input.ensures.taken _ c.deref.result.now is c.in-Err.fault c.in-Err.ensures.exact);
  unread = c.read_input.ensures.source;
  rest = g.met.O.Sink.rest_none c.args.out.now;
}

pub returns-in-Ok-written : goal.returns-in-Ok-written
returns-in-Ok-written g c = record {
  sifts = let i = c.args.input.now in
      let t = g.T.Tree.view c.args.tree.now in
      let a = g.I.Source.view c.args.source.now in
      let is = subst (λ (l : List ℕ). IsAnswer (Ok l) i None t a) (sym c.deref.ensures.value) c.in_ok-text.ensures.text in
      counts-written i t _ a _ c.read_input.ensures.untouched c.read_input.ensures.passes c.read_input.ensures.taken _ c.deref.result.now is
      c.deref-2.result.now (c.in-Ok.ensures.exact ∙ ap (λ (l : List ℕ). Ok l) (sym c.deref-2.ensures.value)) _ c.in_ok-text.ensures.end c.in-Ok-written.ensures.call c.in-Ok-written.ensures.received;
  unread = c.read_input.ensures.source;
  rest = c.put_all-written.ensures.rest;
}

pub returns-in-Err-written : goal.returns-in-Err-written
returns-in-Err-written g c = record {
  sifts = let i = c.args.input.now in
      let t = g.T.Tree.view c.args.tree.now in
      let a = g.I.Source.view c.args.source.now in
      let is = subst (λ (l : List ℕ). IsAnswer (Ok l) i None t a) (sym c.deref.ensures.value) c.in_ok-text.ensures.text in
      counts-cut i t _ a _ c.read_input.ensures.untouched c.read_input.ensures.passes c.read_input.ensures.taken _ c.deref.result.now is
      c.deref-2.result.now (c.in-Ok.ensures.exact ∙ ap (λ (l : List ℕ). Ok l) (sym c.deref-2.ensures.value)) _ c.in-Err-written.field-0 c.in-Err-written.ensures.call c.in-Err-written.ensures.failed;
  unread = c.read_input.ensures.source;
  rest = c.put_all-written.ensures.rest;
}
