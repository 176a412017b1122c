use Rattle.std.proofs.Common.{◌≡◌, ℕ, List, drop}
use Rattle.patch_options.specs.PlainJob.{plain_options}
use Rattle.patch_set.proofs.Refusing.{line_among}
use Rattle.patch_set.proofs.reserving.reserving_line.Given as goal

-- it isn't one of the file patches so far
abbrev pub invariant-loop-patch : goal.invariant-loop-patch
invariant-loop-patch l = (known : List (List ℕ)) → line_among (plain_options l.options) known l.text l.patches ≡ line_among (plain_options l.options) known l.text (drop l.patch-index l.patches)
