use Rattle.unified_form.proofs.Rowing.{row-is, row-fails}
use Rattle.unified_form.proofs.rows.read_row.Goals as goal

pub returns-clause-row : goal.returns-clause-row
returns-clause-row c = row-is c.args.text.now c.args.least c.args.place c.pass_hunk.result c.pass_hunk.ensures.place c.pass_hunk.ensures.exact

pub returns-clause-fails : goal.returns-clause-fails
returns-clause-fails c = row-fails c.args.text.now c.args.least c.args.place c.pass_hunk.result c.pass_hunk.ensures.exact
