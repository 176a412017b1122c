use Rattle.std.proofs.Common.{◌≡◌, take, false}
use Rattle.std.specs.List.{list_any}
use Rattle.hunk_apply.specs.Session.{is_failed}
use Rattle.apply_outcome.proofs.rejects.some_failed.Given as goal

abbrev pub invariant-loop-i : goal.invariant-loop-i
invariant-loop-i l = list_any is_failed (take l.i l.verdicts) ≡ false
