use Rattle.outside.proofs.SinkSteps.{HasPut}
use Rattle.flip_patch.specs.Flipped.{flipped_patch}
use Rattle.flip_patch.proofs.Loops.{back_to}
use Rattle.flip_patch.proofs.writing.put_all_patches.Given as goal

abbrev pub invariant-loop-patch : goal.invariant-loop-patch
invariant-loop-patch g l = HasPut g.O.Sink.view g.O.Sink.same_rest l.fn.out l.out (back_to (flipped_patch l.set.text) l.set.patches l.patch)
