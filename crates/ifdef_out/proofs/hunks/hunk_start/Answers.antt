use Rattle.std.proofs.Common.{sym, ◌∙◌, arith, rules}
use Rattle.ifdef_out.proofs.HunkSteps.{none-ahead, none-placed, starts-at, starts-over, here}
use Rattle.ifdef_out.proofs.hunks.hunk_start.Goals as goal

pub returns-then-row-hunks-clause-left : goal.returns-then-row-hunks-clause-left
returns-then-row-hunks-clause-left c text side =
    none-ahead text side c.args.verdicts.now c.args.hunks.now c.args.row 0 1 (omega arith)
    ∙ sym (none-placed text side c.args.verdicts.now c.args.hunks.now c.args.row (omega arith))

pub returns-in-At-clause-left : goal.returns-in-At-clause-left
returns-in-At-clause-left c text side =
    let h = here c.args.hunks.now c.args.row c.if-row-hunks.false in
    starts-at text side c.args.verdicts.now c.args.hunks.now c.args.row c.in-At.line c.in-At.fuzz c.in-At.offset _ h.0 (omega (arith, c.requires.rows)) c.if-row-hunks.false c.in-At.is h.1

pub returns-clause-left : goal.returns-clause-left
returns-clause-left c text side =
    starts-over text side c.args.verdicts.now c.args.hunks.now c.args.row c.len.result 1 _ c.index-hunks-row.result (omega (arith, c.requires.rows)) c.if-row-hunks.false c.in_default.not-At c.index-hunks-row.is
    (search rules)
