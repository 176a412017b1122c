use Rattle.std.proofs.Common.{◌≡◌, ◌++◌, drop, flat_map, map}
use Rattle.patch_options.specs.Simple.{plain_table}
use Rattle.patch_options.specs.Whole.{long_names}
use Rattle.patch_options.proofs.LongNames.{group_names}
use Rattle.patch_options.proofs.whole.long_names.Given as goal

-- the names so far, with those of the groups that are left
abbrev pub invariant-loop-group : goal.invariant-loop-group
invariant-loop-group l = map (λ n. n.now) l.names.items ++ flat_map group_names (drop l.group-index l.table) ≡ long_names (plain_table l.table)
