use Rattle.std.proofs.Common.{sym, ap, rules}
use Rattle.hunk_core.specs.PlainHunk.{marked_of}
use Rattle.context_form.specs.Merging.{agrees}
use Rattle.context_form.proofs.MergeLemmas.{nothing, view-end}
use Rattle.context_form.proofs.StepLemmas.{agrees-there}
use Rattle.context_form.proofs.merging.agrees_at.Goals as goal

pub returns : goal.returns
returns c = agrees-there c.args.text.now c.args.line c.args.part.now c.args.place _ _ _ c.if-place-part.false c.bytes_of.ensures c.bytes_of-2.ensures (search rules)

pub returns-then-place-part : goal.returns-then-place-part
returns-then-place-part c = sym (ap (agrees (marked_of c.args.text.now c.args.line)) (view-end c.args.text.now c.args.part.now c.args.place c.if-place-part.true))

pub bytes_of-requires-2 : goal.bytes_of-requires-2
bytes_of-requires-2 c = c.requires.part_within c.args.place nothing c.if-place-part.false
