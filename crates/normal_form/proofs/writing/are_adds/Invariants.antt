use Rattle.std.proofs.Common.{◌≡◌, drop}
use Rattle.normal_form.specs.Canonical.{are_added}
use Rattle.normal_form.proofs.writing.are_adds.Given as goal

abbrev pub invariant-loop-i : goal.invariant-loop-i
invariant-loop-i l = are_added (drop l.i l.hunk.body.items) ≡ are_added (drop l.from l.hunk.body.items)
