use Rattle.std.proofs.Common.{◌≡◌, drop}
use Rattle.patch_set.specs.Looks.{is_script_change}
use Rattle.flip_patch.proofs.Refused.{first_line}
use Rattle.flip_patch.proofs.refusals.first_script.Given as goal

-- it isn't one of the file patches so far
abbrev pub invariant-loop-i : goal.invariant-loop-i
invariant-loop-i l = first_line (λ p. is_script_change p.change) (drop l.i l.patches) ≡ first_line (λ p. is_script_change p.change) l.patches
