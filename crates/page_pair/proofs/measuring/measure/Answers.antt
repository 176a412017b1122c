use Rattle.std.proofs.Common.{◌≡◌, subst, ◌∙◌, ℕ, ◌-◌, sym}
use Rattle.outside.proofs.Views.{untouched_both}
use Rattle.page_pair.specs.Room.{HasRoom}
use Rattle.page_pair.proofs.Readings.{told-later, measure-later, told-sooner}
use Rattle.outside.proofs.Exits.{if_ok_none}
use Rattle.page_pair.specs.Measuring.{IsSound}
use Rattle.page_pair.specs.Reading.{IsMeasureFault}
use Rattle.page_pair.proofs.Pieces.{err-as, level}
use Rattle.page_pair.proofs.measuring.measure.Goals as goal

pub returns-in_err-now : goal.returns-in_err-now
returns-in_err-now g c = record {
  untouched = untouched_both c.loop-now.invariant.untouched c.in_err-now.ensures.untouched;
  size = c.in_err-now.ensures.size ∙ c.loop-now.invariant.size;
  sound = if_ok_none _ _ c.from_residual.result c.from_residual.ensures.1;
  end = if_ok_none _ _ c.from_residual.result c.from_residual.ensures.1;
  measured = if_ok_none _ _ c.from_residual.result c.from_residual.ensures.1;
  room = if_ok_none _ _ c.from_residual.result c.from_residual.ensures.1;
  cause = err-as (λ e. IsMeasureFault e c.args.pair.now.size (g.T.Tree.view c.args.tree.now) (g.T.Tree.view c.measure_piece.new.tree) c.args.name.now) c.in_err-now.field-0.0 c.from_residual.result c.from_residual.ensures.1 (measure-later c.in_err-now.field-0.0 c.args.pair.now.size (g.T.Tree.view c.args.tree.now) (g.T.Tree.view c.loop-now.tree) (g.T.Tree.view c.measure_piece.new.tree) c.args.name.now c.loop-now.invariant.untouched (subst (λ (n : ℕ). IsMeasureFault c.in_err-now.field-0.0 n (g.T.Tree.view c.loop-now.tree) (g.T.Tree.view c.measure_piece.new.tree) c.args.name.now) c.loop-now.invariant.size c.in_err-now.ensures.cause));
}

pub loop-now-preserved : goal.loop-now-preserved
loop-now-preserved g c =
    let size : c.loop-now.pair.size ≡ c.args.pair.now.size = c.loop-now.invariant.size in
    record {
      untouched = untouched_both c.loop-now.invariant.untouched c.in_ok-now.ensures.untouched;
      size = c.in_ok-now.ensures.size ∙ size;
      sound = rw size at c.in_ok-now.ensures.sound;
      within = c.in_ok-now.ensures.within;
      measured = λ text told. c.in_ok-now.ensures.measured text (told-later c.args.name.now text c.loop-now.invariant.untouched told);
      room = λ text told. subst (λ n. HasRoom n text c.in_ok-now.now.at c.in_ok-now.now.room) size (c.in_ok-now.ensures.room text (told-later c.args.name.now text c.loop-now.invariant.untouched told));
    }

pub measure_piece-requires-clause-there : goal.measure_piece-requires-clause-there
measure_piece-requires-clause-there g c f told = c.requires.there f (sym c.loop-now.invariant.untouched.told ∙ told)

pub measure_piece-requires-clause-stated : goal.measure_piece-requires-clause-stated
measure_piece-requires-clause-stated g c text later = c.requires.stated text (told-sooner c.args.name.now text c.loop-now.invariant.untouched later)

pub measure_piece-requires-clause-sound : goal.measure_piece-requires-clause-sound
measure_piece-requires-clause-sound g c = subst (λ (n : ℕ). IsSound c.loop-now.now (n - 4)) (sym c.loop-now.invariant.size) c.loop-now.invariant.sound

pub measure_piece-requires-clause-within : goal.measure_piece-requires-clause-within
measure_piece-requires-clause-within g c = c.loop-now-test.true

pub measure_piece-requires-clause-few : goal.measure_piece-requires-clause-few
measure_piece-requires-clause-few g c = c.requires.few

pub measure_piece-requires-clause-measured : goal.measure_piece-requires-clause-measured
measure_piece-requires-clause-measured g c text later = c.loop-now.invariant.measured text (told-sooner c.args.name.now text c.loop-now.invariant.untouched later)

pub measure_piece-requires-clause-room : goal.measure_piece-requires-clause-room
measure_piece-requires-clause-room g c text later = subst (λ (n : ℕ). HasRoom n text c.loop-now.now.at c.loop-now.now.room) (sym c.loop-now.invariant.size) (c.loop-now.invariant.room text (told-sooner c.args.name.now text c.loop-now.invariant.untouched later))

pub returns : goal.returns
returns g c = record {
  untouched = c.loop-now.invariant.untouched;
  size = c.loop-now.invariant.size;
  sound = c.loop-now.invariant.sound;
  end = level _ _ c.loop-now.invariant.within c.loop-now-test.false;
  measured = c.loop-now.invariant.measured;
  room = c.loop-now.invariant.room;
  cause = tt;
}
