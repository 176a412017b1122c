use Rattle.std.proofs.Common.{drop}
use Rattle.context_form.specs.Canonical.{mixed, part_text}
use Rattle.context_form.proofs.MixedLemmas.{taken_body, SoFar}
use Rattle.context_form.proofs.writing.put_part.Given as goal

abbrev pub invariant-loop-i : goal.invariant-loop-i
invariant-loop-i g l = SoFar g.O.Sink.view g.O.Sink.same_rest l.fn.out l.out (part_text l.part l.changed (taken_body l.text l.side (drop l.i l.hunk.body.items))) (part_text l.part (mixed (taken_body l.text l.side l.hunk.body.items)) (taken_body l.text l.side l.hunk.body.items))
