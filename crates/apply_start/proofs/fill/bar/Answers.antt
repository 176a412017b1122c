use Rattle.std.proofs.Common.{◌≡◌, ◌∙◌, ◌==◌, sym, ap}
use Rattle.std.specs.Prelude.{count_by, replicate}
use Rattle.std.specs.List.{list_any}
use Rattle.hunk_core.specs.declared.Verdict.TheVariants.{Nowhere}
use Rattle.read_file_patch.specs.PlainPatch.{row_count}
use Rattle.hunk_apply.specs.Session.{is_placed, is_failed, is_inexact}
use Rattle.outside.proofs.Exits.{if_ok_none, on_ok_none}
use Rattle.hunk_apply.specs.Faults.{HasApplyCause}
use Rattle.hunk_apply.proofs.FaultLemmas.{if-err-still}
use Rattle.patch_set.proofs.Named.{rows-counted}
use Rattle.apply_start.proofs.Barring.{none_placed, all_failed, some_inexact}
use Rattle.apply_start.proofs.fill.bar.Goals as goal

pub returns : goal.returns
returns g c = record {
  keeps = c.in_ok-kept.ensures.keeps;
  sink = c.in_ok-kept.ensures.sink;
  rest = c.in_ok-kept.ensures.rest;
  cause = tt;
  received = c.in_ok-kept.ensures.received;
  verdicts = c.fill.ensures.after (λ y is. is) ∙ ap (λ k. replicate k Nowhere) c.requires.rows;
  session = λ lines told.
      let text = c.args.task.now.set.now.text in
      let change = c.args.task.now.patch.now.change in
      let n = row_count change in
      let all : c.fill.new.self ≡ replicate n Nowhere = c.fill.ensures.after (λ y is. is) ∙ ap (λ k. replicate k Nowhere) c.requires.rows in
      record {
        applied = none_placed n ∙ ap (λ l. count_by is_placed l) (sym all);
        failed = c.hunks.ensures text ∙ rows-counted text change ∙ all_failed n ∙ ap (λ l. count_by is_failed l) (sym all);
        inexact = some_inexact n (ap (λ k. k == 0) (sym (rows-counted text change)) ∙ c.requires.hunks) ∙ ap (λ l. list_any is_inexact l) (sym all);
        empty = c.in_ok-kept.ensures.output_empty lines told;
      };
}

pub returns-in_err-kept : goal.returns-in_err-kept
returns-in_err-kept g c = record {
  keeps = c.in_err-kept.ensures.keeps;
  sink = c.in_err-kept.ensures.sink;
  rest = c.in_err-kept.ensures.rest;
  received = on_ok_none _ _ c.from_residual.result c.from_residual.ensures.1;
  session = if_ok_none _ _ c.from_residual.result c.from_residual.ensures.1;
  verdicts = c.fill.ensures.after (λ y is. is) ∙ ap (λ k. replicate k Nowhere) c.requires.rows;
  cause = if-err-still (λ e. HasApplyCause e (g.P.LineStore.seen c.args.plan.now) (g.P.LineStore.seen c.apply_each.new.store) (g.O.Sink.view c.args.out.now) (g.O.Sink.view c.apply_each.new.out)) c.in_err-kept.field-0.0 c.from_residual.result c.from_residual.ensures.1 c.in_err-kept.ensures.cause;
}
