use Rattle.std.proofs.Common.{◌≡◌}
use Rattle.outside.proofs.SinkSteps.{HasPut}
use Rattle.outside.proofs.Loops.{up_to}
use Rattle.patch_filters.specs.Filtered.{pieces}
use Rattle.patch_filters.specs.HunkLines.{first_line, hunk_lines}
use Rattle.patch_filters.proofs.Begun.{begun}
use Rattle.patch_filters.proofs.hunk_lines.put_hunk_lines.Given as goal

abbrev pub invariant-loop-hunk : goal.invariant-loop-hunk
invariant-loop-hunk g l = HasPut g.O.Sink.view g.O.Sink.same_rest l.fn.out l.out (up_to (λ line. line) (hunk_lines l.shown.hunk_label.items l.text l.patch) l.hunk) × (l.line ≡ begun (first_line l.patch.header.form l.patch.header.opening) l.hunk (pieces l.text l.patch))
