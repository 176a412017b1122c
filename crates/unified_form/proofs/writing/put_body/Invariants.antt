use Rattle.std.proofs.Common.{take}
use Rattle.outside.proofs.SinkSteps.{HasPut}
use Rattle.unified_form.proofs.WritingLemmas.{written}
use Rattle.unified_form.proofs.writing.put_body.Given as goal

abbrev pub invariant-loop-i : goal.invariant-loop-i
invariant-loop-i g l = HasPut g.O.Sink.view g.O.Sink.same_rest l.fn.out l.out (written l.text l.side (take l.i l.hunk.body.items))
