use Rattle.std.proofs.Common.{sym}
use Rattle.context_form.specs.Hunks.{part_over}
use Rattle.context_form.proofs.StepLemmas.{size-wrong, size-large}
use Rattle.context_form.proofs.hunks.has_size.Goals as goal

pub returns-then-not-is_count : goal.returns-then-not-is_count
returns-then-not-is_count c text = rw c.bad.ensures (size-wrong (part_over text c.args.part.now) (part_over text c.args.partner.now) c.size_beside-size.result (sym (c.size_beside-size.ensures text)) (sym c.if-not-is_count.ensures))

pub returns-then-part-size-gt4294967295 : goal.returns-then-part-size-gt4294967295
returns-then-part-size-gt4294967295 c text = rw c.bad-then-part-size-gt4294967295.ensures (size-large (part_over text c.args.part.now) (part_over text c.args.partner.now) c.size_beside-size.result (sym (c.size_beside-size.ensures text)) (sym c.if-not-is_count.ensures) c.if-part-size-gt4294967295.true)
