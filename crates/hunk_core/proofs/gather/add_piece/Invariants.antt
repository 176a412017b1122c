use Rattle.std.proofs.Common.{◌≡◌, ◌++◌, take}
use Rattle.hunk_core.proofs.gather.add_piece.Given as goal

abbrev pub invariant-loop-byte : goal.invariant-loop-byte
invariant-loop-byte g l = l.gathered.items ≡ l.initial.gathered.items ++ take l.byte-index l.piece
