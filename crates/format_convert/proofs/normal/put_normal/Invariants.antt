use Rattle.std.proofs.Common.{◌≡◌, ◌≤◌, ◌+◌, ◌^◌, length}
use Rattle.format_convert.specs.Blocks.{blocks_of, hunk_edits}
use Rattle.format_convert.specs.Commands.{normal_behind, normal_text}
use Rattle.format_convert.specs.Walk.{edits_left, left_hunks}
use Rattle.format_convert.proofs.Parts.{Written}
use Rattle.format_convert.proofs.normal.put_normal.Given as goal

abbrev pub invariant-loop-block : goal.invariant-loop-block
invariant-loop-block g l = record {
  written : Written g.O.Sink.view g.O.Sink.same_rest l.fn.out l.out (normal_text (blocks_of (hunk_edits (left_hunks l.kept)))) (normal_behind l.net.adds l.net.drops (blocks_of (edits_left l.kept l.place)));
  small : l.net.adds + l.net.drops + length (edits_left l.kept l.place) ≤ 2 ^ 32;
}

abbrev pub decreases-loop-block : goal.decreases-loop-block
decreases-loop-block g l = length (edits_left l.kept l.place)
