use Rattle.std.proofs.Common.{◌≡◌, ℕ, List, drop}
use Rattle.patch_options.specs.PlainJob.{plain_options}
use Rattle.patch_set.proofs.Refusing.{any_among}
use Rattle.patch_set.proofs.reserving.any_reserving.Given as goal

-- it isn't one of the names so far
abbrev pub invariant-loop-name : goal.invariant-loop-name
invariant-loop-name l = (known : List (List ℕ)) → any_among (plain_options l.options) known l.names ≡ any_among (plain_options l.options) known (drop l.name-index l.names)
