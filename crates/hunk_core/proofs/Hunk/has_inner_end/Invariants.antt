use Rattle.std.proofs.Common.{◌≡◌}
use Rattle.hunk_core.specs.PlainHunk.{hunk_of, lines_on}
use Rattle.hunk_core.specs.Rules.{lacks_inner_end}
use Rattle.hunk_core.proofs.SideLemmas.{rest_on, lacks_behind}
use Rattle.hunk_core.proofs.Hunk.has_inner_end.Given as goal

abbrev pub invariant-loop-i : goal.invariant-loop-i
invariant-loop-i l = lacks_inner_end (lines_on l.side (hunk_of l.text l.self).body) ≡ lacks_behind l.ended (rest_on l.text l.side l.self.body.items l.i)
