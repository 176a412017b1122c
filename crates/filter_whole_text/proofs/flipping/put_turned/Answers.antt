use Rattle.patch_set.specs.SetView.{plain_patches}
use Rattle.flip_patch.specs.Flipped.{flipped}
use Rattle.flip_patch.specs.Refusals.{refused}
use Rattle.filter_whole_text.proofs.TurnedText.{turned-ok, turned-err}
use Rattle.filter_whole_text.proofs.flipping.put_turned.Goals as goal

pub returns-in-Ok : goal.returns-in-Ok
returns-in-Ok g c = record {
  turned = turned-ok g.O.Sink.view g.O.Sink.same_rest c.args.out.now c.flip_patches.new.out (flipped c.args.set.now) (refused (plain_patches c.args.set.now)) c.in-Ok.ensures.answers;
  rest = c.flip_patches.ensures.rest;
}

pub returns-in-Err : goal.returns-in-Err
returns-in-Err g c = record {
  turned = rw c.from.ensures (turned-err g.O.Sink.view g.O.Sink.same_rest c.args.out.now c.flip_patches.new.out (flipped c.args.set.now) c.in-Err.fault (refused (plain_patches c.args.set.now)) c.in-Err.ensures.answers);
  rest = c.flip_patches.ensures.rest;
}
