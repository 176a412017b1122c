use Rattle.hunk_core.specs.PlainHunk.{hunk_of}
use Rattle.hunk_core.specs.Turned.{swapped}
use Rattle.outside.proofs.SinkSteps.{HasPut}
use Rattle.flip_patch.specs.Flipped.{hunk_text}
use Rattle.outside.proofs.Loops.{up_to}
use Rattle.flip_patch.proofs.hunks.put_hunks.Given as goal

abbrev pub invariant-loop-i : goal.invariant-loop-i
invariant-loop-i g l = HasPut g.O.Sink.view g.O.Sink.same_rest l.fn.out l.out (up_to (λ h. hunk_text l.form (swapped (hunk_of l.text h))) l.hunks l.i)
