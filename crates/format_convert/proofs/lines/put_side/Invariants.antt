use Rattle.std.proofs.Common.{◌≡◌, ◌++◌, ◌≤◌, ◌^◌, ℕ, List, length}
use Rattle.std.specs.List.{flat_map}
use Rattle.outside.proofs.SinkSteps.{HasPut}
use Rattle.normal_form.specs.Canonical.{line_text}
use Rattle.format_convert.specs.Fronts.{front}
use Rattle.format_convert.specs.Walk.{edits_left}
use Rattle.format_convert.proofs.Parts.{Written}
use Rattle.format_convert.proofs.lines.put_side.Given as goal

abbrev pub invariant-loop-found : goal.invariant-loop-found
invariant-loop-found g l = record {
  written : Written g.O.Sink.view g.O.Sink.same_rest l.fn.out l.out (flat_map (line_text l.side) (front l.side l.fn.first (edits_left l.kept l.fn.place))) (flat_map (line_text l.side) (front l.side l.gap (edits_left l.kept l.at)));
  near : l.gap ≤ 2 ^ 44;
}

abbrev pub decreases-loop-found : goal.decreases-loop-found
decreases-loop-found g l = length (edits_left l.kept l.at)
