use Rattle.std.proofs.Common.{◌≡◌, ◌≤◌, drop}
use Rattle.hunk_place.specs.Taken.{side_lines}
use Rattle.hunk_place.proofs.pattern.index_behind.Given as goal

abbrev pub invariant-loop-k : goal.invariant-loop-k
invariant-loop-k l = record {
  few : l.i ≤ l.k;
  most : l.i ≤ l.front;
  rest : side_lines l.text l.side (drop l.k l.hunk.body.items) ≡ drop l.i (side_lines l.text l.side l.hunk.body.items);
}
