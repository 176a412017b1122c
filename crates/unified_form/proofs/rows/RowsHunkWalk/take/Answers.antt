use Rattle.unified_form.proofs.Rowing.{row-taken, rows-push}
use Rattle.unified_form.proofs.rows.RowsHunkWalk.take.Goals as goal

pub returns-clause-taken : goal.returns-clause-taken
returns-clause-taken c =
    let row = c.in_ok-old.ensures in
    let before = c.args.self.now in
    row-taken _ c.args.text.now c.args.least c.args.place c.in_ok-old.next c.in_ok-old.old before _ row.place row.row
    (λ from hs has. rw (c.in_ok-push.ensures.items, c.in_ok-push-2.ensures.items) (rows-push c.args.text.now from hs c.args.least c.args.place c.in_ok-old.next c.in_ok-old.old before.olds.items before.spans.items row.place.1 row.row has))
