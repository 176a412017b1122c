use Rattle.std.proofs.Common.{◌≡◌, ◌<◌, length, get_or, []}
use Rattle.hunk_core.specs.PlainHunk.{hunk_of, old_lines}
use Rattle.hunk_core.specs.Turned.{turned}
use Rattle.hunk_core.proofs.SideLemmas.{rest_on}
use Rattle.hunk_core.proofs.Hunk.pattern.Given as goal

abbrev pub invariant-loop-k : goal.invariant-loop-k
invariant-loop-k l = record {
  within : l.left < length (rest_on l.text l.side l.self.body.items l.k);
  same : get_or (old_lines (turned l.side (hunk_of l.text l.self)).body) l.i [] ≡ get_or (rest_on l.text l.side l.self.body.items l.k) l.left [];
}
