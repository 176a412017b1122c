use Rattle.std.proofs.Common.{◌≡◌, nat_eq, drop}
use Rattle.std.specs.List.{starts_with}
use Rattle.outside.specs.Names.{directory_text}
use Rattle.mem_world.proofs.below.is_below.Given as goal

-- the bytes so far are the same
abbrev pub invariant-loop-i : goal.invariant-loop-i
invariant-loop-i l = starts_with nat_eq l.file (directory_text l.parts l.name) ≡ starts_with nat_eq (drop l.i l.file) (directory_text l.left (drop l.i l.name))
