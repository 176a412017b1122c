use Rattle.std.proofs.Common.{sym, ◌∙◌}
use Rattle.series_stack.proofs.Entries.{first-missing, first-file}
use Rattle.series_stack.proofs.entry.first_entry.Goals as goal

pub returns-in-Some : goal.returns-in-Some
returns-in-Some c = c.missing.ensures ∙ sym (first-missing c.args.text.now c.in-Some.rest.now c.in-Some.ensures)

pub returns-in-None : goal.returns-in-None
returns-in-None c = c.held_or_none.ensures ∙ sym (first-file c.args.text.now c.in-None.ensures)
