use Rattle.std.proofs.Common.{◌∙◌, sym}
use Rattle.read_file_patch.specs.Absent.{creates}
use Rattle.apply_task.specs.Asking.{is_bare}
use Rattle.apply_task.specs.Outputs.{has_lines}
use Rattle.apply_task.specs.TaskView.{plain_task}
use Rattle.apply_start.proofs.Barring.{count_lines, all_tests}
use Rattle.apply_start.proofs.fill.is_barred.Goals as goal

pub returns-clause-barred : goal.returns-clause-barred
returns-clause-barred g c = λ lines told.
    let task = c.args.task.now in
    let t = plain_task task in
    let text = task.set.now.text in
    count_lines lines c.count.result (c.count.ensures.is ∙ (c.count.ensures.told lines told).count)
    ∙ all_tests t.options.force (is_bare t.item.patch) (creates c.args.side t.item.patch) (has_lines lines) c.if-not-task.false (sym (c.is_bare.ensures text) ∙ c.if-is_bare.false) (sym (c.creates.ensures.creates text c.requires.task.fit.lawful) ∙ c.if-not-creates.false)

pub returns-clause-hunks : goal.returns-clause-hunks
returns-clause-hunks g c = λ is. sym (c.is_bare.ensures c.args.task.now.set.now.text) ∙ c.if-is_bare.false
