use Rattle.std.proofs.Common.{◌∙◌, ℕ, List, length, sym, ap, subst}
use Rattle.std.specs.Prelude.{replicate, All}
use Rattle.std.proofs.lemmas.List.{length-replicate}
use Rattle.std.proofs.lemmas.Result.{IfOk-weaker, on_ok_weaker}
use Rattle.outside.specs.SinkView.{Receives}
use Rattle.hunk_core.specs.declared.Verdict.{Verdict}
use Rattle.hunk_core.specs.declared.Verdict.TheVariants.{Nowhere}
use Rattle.read_file_patch.specs.PlainPatch.{change_of, row_count}
use Rattle.hunk_apply.specs.Change.{change_output, change_verdicts}
use Rattle.hunk_apply.specs.Session.{IsTried}
use Rattle.patch_set.proofs.Named.{rows-counted}
use Rattle.apply_task.specs.Outputs.{text_of, IsSession}
use Rattle.apply_task.specs.TaskView.{plain_task}
use Rattle.apply_start.proofs.Barring.{verdicts_barred, verdicts_free, text_barred, text_free, all_tried, on_ok, made_session}
use Rattle.apply_start.proofs.fill.try_plain.Goals as goal

pub returns-then-is_barred-clause-keeps : goal.returns-then-is_barred-clause-keeps
returns-then-is_barred-clause-keeps g c = c.bar.ensures.keeps

pub returns-then-is_barred-clause-sink : goal.returns-then-is_barred-clause-sink
returns-then-is_barred-clause-sink g c = c.bar.ensures.sink

pub returns-then-is_barred-clause-rest : goal.returns-then-is_barred-clause-rest
returns-then-is_barred-clause-rest g c = c.bar.ensures.rest

pub returns-then-is_barred-clause-cause : goal.returns-then-is_barred-clause-cause
returns-then-is_barred-clause-cause g c = c.bar.ensures.cause

pub returns-then-is_barred-clause-rows : goal.returns-then-is_barred-clause-rows
returns-then-is_barred-clause-rows g c = ap (λ (l : List Verdict). length l) c.bar.ensures.verdicts ∙ length-replicate (row_count c.args.task.now.patch.now.change) Nowhere ∙ sym c.requires.rows

pub returns-then-is_barred-clause-tried : goal.returns-then-is_barred-clause-tried
returns-then-is_barred-clause-tried g c = on_ok c.bar.result (subst (λ (l : List Verdict). All IsTried l) (sym c.bar.ensures.verdicts) (all_tried (row_count c.args.task.now.patch.now.change)))

pub returns-then-is_barred-clause-received : goal.returns-then-is_barred-clause-received
returns-then-is_barred-clause-received g c =
    let t = plain_task c.args.task.now in
    on_ok_weaker c.bar.result
    (λ got lines told. subst (λ (b : List ℕ). Receives (g.O.Sink.view c.args.out.now) (g.O.Sink.view c.bar.new.out) b) (sym (text_barred t.options c.args.side t.item.patch lines (sym (c.is_barred.ensures.barred lines told) ∙ c.if-is_barred.true))) (got lines told))
    c.bar.ensures.received

pub returns-then-is_barred-clause-session : goal.returns-then-is_barred-clause-session
returns-then-is_barred-clause-session g c =
    let t = plain_task c.args.task.now in
    IfOk-weaker c.bar.result _ _
    (λ session is lines told. subst (λ (b : List ℕ). IsSession session c.bar.new.verdicts b) (sym (text_barred t.options c.args.side t.item.patch lines (sym (c.is_barred.ensures.barred lines told) ∙ c.if-is_barred.true))) (is lines told))
    c.bar.ensures.session

pub returns-then-is_barred-clause-verdicts : goal.returns-then-is_barred-clause-verdicts
returns-then-is_barred-clause-verdicts g c =
    let task = c.args.task.now in
    let t = plain_task task in
    on_ok c.bar.result (λ lines told.
    c.bar.ensures.verdicts
    ∙ ap (λ n. replicate n Nowhere) (sym (rows-counted task.set.now.text task.patch.now.change))
    ∙ sym (verdicts_barred t.options c.args.side t.item.patch lines (sym (c.is_barred.ensures.barred lines told) ∙ c.if-is_barred.true)))

pub bar-requires-clause-task : goal.bar-requires-clause-task
bar-requires-clause-task g c = c.requires.task

pub bar-requires-clause-rows : goal.bar-requires-clause-rows
bar-requires-clause-rows g c = c.requires.rows

pub bar-requires-clause-hunks : goal.bar-requires-clause-hunks
bar-requires-clause-hunks g c = c.is_barred.ensures.hunks c.if-is_barred.true

pub returns-clause-cause : goal.returns-clause-cause
returns-clause-cause g c = c.apply_hunks.ensures.cause

pub returns-clause-tried : goal.returns-clause-tried
returns-clause-tried g c = c.apply_hunks.ensures.tried

pub returns-clause-rest : goal.returns-clause-rest
returns-clause-rest g c = c.apply_hunks.ensures.rest

pub returns-clause-sink : goal.returns-clause-sink
returns-clause-sink g c = c.apply_hunks.ensures.sink

pub returns-clause-keeps : goal.returns-clause-keeps
returns-clause-keeps g c = c.apply_hunks.ensures.keeps

pub returns-clause-received : goal.returns-clause-received
returns-clause-received g c =
    let task = c.args.task.now in
    let t = plain_task task in
    on_ok_weaker c.apply_hunks.result
    (λ got lines told. subst (λ (b : List ℕ). Receives (g.O.Sink.view c.args.out.now) (g.O.Sink.view c.apply_hunks.new.out) b)
    (ap (λ (text : List ℕ). change_output lines t.options.fuzz t.options.loose c.args.side (change_of text task.patch.now.change)) c.text.ensures ∙ sym (text_free t.options c.args.side t.item.patch lines (sym (c.is_barred.ensures.barred lines told) ∙ c.if-is_barred.false)))
    (got lines told))
    c.apply_hunks.ensures.received

pub returns-clause-session : goal.returns-clause-session
returns-clause-session g c =
    let task = c.args.task.now in
    let t = plain_task task in
    made_session c.apply_hunks.result c.apply_hunks.new.verdicts (g.P.LineStore.seen c.args.plan.now).told (λ lines. text_of t c.args.side lines) (λ lines. change_output lines t.options.fuzz t.options.loose c.args.side (change_of c.text.result.now task.patch.now.change))
    (λ lines told. text_free t.options c.args.side t.item.patch lines (sym (c.is_barred.ensures.barred lines told) ∙ c.if-is_barred.false) ∙ ap (λ (text : List ℕ). change_output lines t.options.fuzz t.options.loose c.args.side (change_of text task.patch.now.change)) (sym c.text.ensures))
    c.apply_hunks.ensures.applied c.apply_hunks.ensures.failed c.apply_hunks.ensures.inexact c.apply_hunks.ensures.output_empty

pub returns-clause-verdicts : goal.returns-clause-verdicts
returns-clause-verdicts g c =
    let task = c.args.task.now in
    let t = plain_task task in
    on_ok_weaker c.apply_hunks.result
    (λ is lines told.
    is lines told
    ∙ ap (λ (text : List ℕ). change_verdicts lines t.options.fuzz t.options.loose c.args.side (change_of text task.patch.now.change)) c.text.ensures
    ∙ sym (verdicts_free t.options c.args.side t.item.patch lines (sym (c.is_barred.ensures.barred lines told) ∙ c.if-is_barred.false)))
    c.apply_hunks.ensures.placed

pub apply_hunks-requires-clause-rows : goal.apply_hunks-requires-clause-rows
apply_hunks-requires-clause-rows g c = c.requires.rows
