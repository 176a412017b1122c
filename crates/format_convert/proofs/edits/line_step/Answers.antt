use Rattle.std.proofs.Common.{◌+◌, cond, ap, sym, ◌∙◌}
use Rattle.hunk_core.specs.declared.Mark.{Mark}
use Rattle.hunk_core.specs.declared.Side.TheVariants.{Forward}
use Rattle.hunk_core.specs.PlainHunk.{bytes_at}
use Rattle.hunk_core.specs.Sides.{is_on_side}
use Rattle.format_convert.specs.Blocks.{marked_edits}
use Rattle.format_convert.proofs.Bounds.{line-fits, near-fits, near-line, stays}
use Rattle.format_convert.proofs.edits.line_step.Goals as goal

pub returns-in-Add-clause-next : goal.returns-in-Add-clause-next
returns-in-Add-clause-next c = stays c.args.place.next ∙ ap (λ (m : Mark). c.args.place.next + cond (is_on_side Forward m) 1 0) (sym c.in-Add.is)

pub returns-in-Drop-clause-next : goal.returns-in-Drop-clause-next
returns-in-Drop-clause-next c = ap (λ (m : Mark). c.args.place.next + cond (is_on_side Forward m) 1 0) (sym c.in-Drop.is)

pub returns-in-Add-clause-edit : goal.returns-in-Add-clause-edit
returns-in-Add-clause-edit c = λ text rest. ap (λ (m : Mark). marked_edits m c.args.place.next (bytes_at text c.args.line.span) (λ _. rest)) c.in-Add.is

pub returns-in-Drop-clause-edit : goal.returns-in-Drop-clause-edit
returns-in-Drop-clause-edit c = λ text rest. ap (λ (m : Mark). marked_edits m c.args.place.next (bytes_at text c.args.line.span) (λ _. rest)) c.in-Drop.is

pub returns-in-Keep-clause-next : goal.returns-in-Keep-clause-next
returns-in-Keep-clause-next c = ap (λ (m : Mark). c.args.place.next + cond (is_on_side Forward m) 1 0) (sym c.in-Keep.is)

pub returns-in-Drop-clause-lies : goal.returns-in-Drop-clause-lies
returns-in-Drop-clause-lies c = λ text lies. record { near = near-line c.args.place.next c.args.place.line c.args.place.near c.requires; lies = lies }

pub returns-in-Add-clause-lies : goal.returns-in-Add-clause-lies
returns-in-Add-clause-lies c = λ text lies. record { near = near-line c.args.place.next c.args.place.line c.args.place.near c.requires; lies = lies }

pub returns-in-Keep-clause-edit : goal.returns-in-Keep-clause-edit
returns-in-Keep-clause-edit c = λ text rest. ap (λ (m : Mark). marked_edits m c.args.place.next (bytes_at text c.args.line.span) (λ _. rest)) c.in-Keep.is

pub overflow_add-result-in-Drop-2 : goal.overflow_add-result-in-Drop-2
overflow_add-result-in-Drop-2 c = near-fits c.args.place.next c.args.place.line c.args.place.near c.requires

pub overflow_add-result-in-Add : goal.overflow_add-result-in-Add
overflow_add-result-in-Add c = line-fits c.args.place.line c.requires
