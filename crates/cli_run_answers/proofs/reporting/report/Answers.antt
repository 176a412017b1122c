use Rattle.std.proofs.Common.{[], ◌∷◌, ◌++◌, codes, map, string_bytes, sym, ◌∙◌}
use Rattle.cli_run_answers.specs.Reasons.{reason_of}
use Rattle.cli_run_answers.proofs.Writes.{behind_tool, no_line}
use Rattle.outside.proofs.Writing.{stop_all, then_all, writes_stop, writes_then, writes_is}
use Rattle.std.proofs.lemmas.Bool.{false≢true}
use Rattle.cli_run_answers.proofs.reporting.report.Goals as goal

pub returns-then-is_ended-clause-writes : goal.returns-then-is_ended-clause-writes
returns-then-is_ended-clause-writes g c = no_line _ _ (map string_bytes c.args.words.now) c.args.why (sym c.is_ended.ensures ∙ c.if-is_ended.true)

pub returns-then-is_ended-clause-rest : goal.returns-then-is_ended-clause-rest
returns-then-is_ended-clause-rest g c = g.met.E.Sink.rest_none c.args.err.now

pub returns-in_err-put_all : goal.returns-in_err-put_all
returns-in_err-put_all g c = record {
  writes = behind_tool c.from_residual.result (map string_bytes c.args.words.now) c.args.why c.tool_of.result.now c.tool_of.ensures (sym c.is_ended.ensures ∙ c.if-is_ended.false)
      (stop_all c.in_err-put_all.field-0.0 c.from_residual.result c.tool_of.result.now (codes ": **** " ++ (reason_of c.args.why ++ 10 ∷ [])) c.from_residual.ensures.0 c.in_err-put_all.ensures.call c.in_err-put_all.ensures.failed);
  still = λ ended. absurd (false≢true (sym c.if-is_ended.false ∙ (c.is_ended.ensures ∙ ended)));
  rest = c.in_err-put_all.ensures.rest;
}

pub returns-in_err-put_all-2 : goal.returns-in_err-put_all-2
returns-in_err-put_all-2 g c =
    let s = c.from_residual-in_err-put_all-2.result in
    let is = c.from_residual-in_err-put_all-2.ensures.0 in
    record {
      writes = behind_tool s (map string_bytes c.args.words.now) c.args.why c.tool_of.result.now c.tool_of.ensures (sym c.is_ended.ensures ∙ c.if-is_ended.false)
          (then_all c.in_ok-put_all.field-0 s c.tool_of.result.now (codes ": **** " ++ (reason_of c.args.why ++ 10 ∷ [])) c.in_ok-put_all.ensures.call c.in_ok-put_all.ensures.received
          (stop_all c.in_err-put_all-2.field-0.0 s (codes ": **** ") (reason_of c.args.why ++ 10 ∷ []) is c.in_err-put_all-2.ensures.call c.in_err-put_all-2.ensures.failed));
      still = λ ended. absurd (false≢true (sym c.if-is_ended.false ∙ (c.is_ended.ensures ∙ ended)));
      rest = g.met.E.Sink.rest_both _ _ _ c.in_ok-put_all.ensures.rest c.in_err-put_all-2.ensures.rest;
    }

pub returns-in_err-put_reason : goal.returns-in_err-put_reason
returns-in_err-put_reason g c =
    let s = c.from_residual-in_err-put_reason.result in
    let is = c.from_residual-in_err-put_reason.ensures.0 in
    record {
      writes = behind_tool s (map string_bytes c.args.words.now) c.args.why c.tool_of.result.now c.tool_of.ensures (sym c.is_ended.ensures ∙ c.if-is_ended.false)
          (then_all c.in_ok-put_all.field-0 s c.tool_of.result.now (codes ": **** " ++ (reason_of c.args.why ++ 10 ∷ [])) c.in_ok-put_all.ensures.call c.in_ok-put_all.ensures.received
          (then_all c.in_ok-put_all-2.field-0 s (codes ": **** ") (reason_of c.args.why ++ 10 ∷ []) c.in_ok-put_all-2.ensures.call c.in_ok-put_all-2.ensures.received
          (writes_stop c.in_err-put_reason.field-0.0 s (10 ∷ []) is (writes_is _ (reason_of c.args.why) c.in_err-put_reason.ensures.writes c.reason_of.ensures))));
      still = λ ended. absurd (false≢true (sym c.if-is_ended.false ∙ (c.is_ended.ensures ∙ ended)));
      rest = g.met.E.Sink.rest_both _ _ _ (g.met.E.Sink.rest_both _ _ _ c.in_ok-put_all.ensures.rest c.in_ok-put_all-2.ensures.rest) c.in_err-put_reason.ensures.rest;
    }

pub returns : goal.returns
returns g c =
    let s = c.put_all-3.result in
    let last = c.put_all-3.ensures in
    record {
      writes = behind_tool s (map string_bytes c.args.words.now) c.args.why c.tool_of.result.now c.tool_of.ensures (sym c.is_ended.ensures ∙ c.if-is_ended.false)
          (then_all c.in_ok-put_all.field-0 s c.tool_of.result.now (codes ": **** " ++ (reason_of c.args.why ++ 10 ∷ [])) c.in_ok-put_all.ensures.call c.in_ok-put_all.ensures.received
          (then_all c.in_ok-put_all-2.field-0 s (codes ": **** ") (reason_of c.args.why ++ 10 ∷ []) c.in_ok-put_all-2.ensures.call c.in_ok-put_all-2.ensures.received
          (writes_then c.in_ok-put_reason.field-0 s (writes_is _ (reason_of c.args.why) c.in_ok-put_reason.ensures.writes c.reason_of.ensures)
          (record { call = last.call; received = last.received; failed = last.failed }))));
      still = λ ended. absurd (false≢true (sym c.if-is_ended.false ∙ (c.is_ended.ensures ∙ ended)));
      rest = g.met.E.Sink.rest_both _ _ _ (g.met.E.Sink.rest_both _ _ _ c.in_ok-put_all.ensures.rest c.in_ok-put_all-2.ensures.rest) (g.met.E.Sink.rest_both _ _ _ c.in_ok-put_reason.ensures.rest last.rest);
    }
