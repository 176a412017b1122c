use Rattle.std.proofs.Common.{◌++◌, ℕ, List, true, refl, sym, ap, subst, Option}
use Rattle.std.proofs.lemmas.Bool.{false≢true}
use Rattle.std.specs.Prelude.{option_map}
use Rattle.line_list.specs.declared.Span.{Span}
use Rattle.outside.specs.SinkView.{sink_passes_none, ReceivesPart}
use Rattle.outside.proofs.Exits.{if_ok_none}
use Rattle.hunk_core.specs.PlainHunk.{bytes_at}
use Rattle.hunk_apply.specs.Splice.{added_line}
use Rattle.hunk_apply.specs.Written.{Wrote, join_behind}
use Rattle.hunk_apply.proofs.FaultLemmas.{on-err}
use Rattle.hunk_apply.proofs.WrittenLemmas.{part-line, wrote-line, wrote-none}
use Rattle.ifdef_out.proofs.writing.put_edit.Goals as goal

pub returns-in_err-now : goal.returns-in_err-now
returns-in_err-now g c = record {
  call = record { passes = c.in_err-now.ensures.call.passes; cause = λ err. c.in_err-now.ensures.call.cause (refl {a = true}) };
  rest = c.in_err-now.ensures.rest;
  written = if_ok_none _ _ c.from_residual.result c.from_residual.ensures.1;
  part =
      let view = g.O.Sink.view in
      let text = c.args.text.now in
      on-err _ ((more : List (List ℕ)) → ReceivesPart (view c.args.out.now) (view c.put_line.new.out) (join_behind c.args.tail.is_open (added_line (option_map (bytes_at text) c.args.edit.added) ++ more)))
      (λ more. part-line (view c.args.out.now) (view c.put_line.new.out) c.args.tail (bytes_at text c.in-Some.span) (added_line (option_map (bytes_at text) c.args.edit.added) ++ more) more
      (ap (λ (o : Option Span). added_line (option_map (bytes_at text) o) ++ more) c.in-Some.is) c.in_err-now.ensures.failed);
}

pub returns-in-Some : goal.returns-in-Some
returns-in-Some g c = record {
  call = record { passes = c.in_ok-now.ensures.call.passes; cause = λ err. absurd (false≢true err) };
  rest = c.in_ok-now.ensures.rest;
  written = λ more.
      let view = g.O.Sink.view in
      let text = c.args.text.now in
      wrote-line (view c.args.out.now) (view c.put_line.new.out) c.args.tail c.in_ok-now.now (bytes_at text c.in-Some.span) (added_line (option_map (bytes_at text) c.args.edit.added) ++ more) more
      (ap (λ (o : Option Span). added_line (option_map (bytes_at text) o) ++ more) c.in-Some.is)
      c.in_ok-now.ensures.received c.in_ok-now.ensures.end c.in_ok-now.ensures.nothing;
  part = tt;
}

pub returns : goal.returns
returns g c = record {
  call = record { passes = sink_passes_none _; cause = λ err. absurd (false≢true err) };
  rest = g.met.O.Sink.rest_none _;
  written = λ more. subst (λ (o : Option Span). Wrote (g.O.Sink.view c.args.out.now) (g.O.Sink.view c.args.out.now) c.args.tail c.args.tail (added_line (option_map (bytes_at c.args.text.now) o) ++ more) more) (sym c.in_default.is) (wrote-none (g.O.Sink.view c.args.out.now) c.args.tail more);
  part = tt;
}
