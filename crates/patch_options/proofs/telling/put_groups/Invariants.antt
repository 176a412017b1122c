use Rattle.std.proofs.Common.{◌≡◌, ◌++◌, drop, flat_map, string_bytes}
use Rattle.patch_options.specs.Usage.{group_text}
use Rattle.patch_options.proofs.telling.put_groups.Given as goal

-- the text so far, with what those give that are left
abbrev pub invariant-loop-group : goal.invariant-loop-group
invariant-loop-group l = string_bytes l.text ++ flat_map group_text (drop l.group-index l.groups) ≡ string_bytes l.fn.text ++ flat_map group_text l.groups
