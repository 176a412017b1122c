use Rattle.std.proofs.Common.{◌≡◌, ◌+◌, ◌-◌, ◌<◌, ◌≤◌, length, arith, ℕ, subst}
use Rattle.page_pair.proofs.Measures.{measured-step, measured-stop}
use Rattle.page_pair.proofs.Rooms.{room-step}
use Rattle.page_pair.specs.Reading.{IsNoneWhole}
use Rattle.page_pair.proofs.Pieces.{walked, walked-on, walked-within}
use Rattle.page_pair.proofs.measuring.measure_lines.Goals as goal

pub returns-in-Err : goal.returns-in-Err
returns-in-Err c = record {
  first = λ text part was. let now = c.loop-end.now in
      let line = c.in-Err.ensures.line in
      measured-stop text c.args.piece.now c.args.start.at c.args.is_last c.loop-end.at c.in-Some.end now.at now.count now.longest c.args.most c.in-Err.long.line c.in-Err.long.length
      part c.in-Some.ensures c.loop-end.invariant.place c.loop-end.invariant.sound.short c.in-Err.ensures.long line.0 line.1 (c.loop-end.invariant.measured text part was);
  sound = tt;
  on = tt;
  within = tt;
  left = tt;
  measured = tt;
  room = tt;
  long = c.in-Err.ensures.long;
}

pub loop-end-preserved : goal.loop-end-preserved
loop-end-preserved c =
    let whole = c.in-Some.ensures in
    let low : c.loop-end.at < c.in-Some.end = whole.low in
    let high : c.in-Some.end ≤ length c.args.piece.now = whole.high in
    let at : c.in-Ok.next.at ≡ c.loop-end.now.at + (c.in-Some.end - c.loop-end.at) = c.in-Ok.ensures.at in
    record {
      place = omega arith;
      within = high;
      sound = c.in-Ok.ensures.sound;
      measured = λ text part was.
          let now = c.loop-end.now in
          measured-step text c.args.piece.now c.args.start.at c.args.is_last c.loop-end.at c.in-Some.end now.at now.count now.longest c.in-Ok.next.at c.in-Ok.next.count c.in-Ok.next.longest
          part whole c.loop-end.invariant.place at c.in-Ok.ensures.count c.in-Ok.ensures.longest (c.loop-end.invariant.measured text part was);
      room = λ text part was.
          let now = c.loop-end.now in
          room-step (c.args.most + 4) text c.args.piece.now c.args.start.at c.args.is_last c.loop-end.at c.in-Some.end now.at now.room c.in-Ok.next.at c.in-Ok.next.room
          part whole c.loop-end.invariant.place at c.in-Ok.ensures.room (c.loop-end.invariant.room text part was);
    }

pub returns : goal.returns
returns c = record {
  sound = c.loop-end.invariant.sound;
  on = walked-on c.loop-end.now.at c.args.start.at c.loop-end.at c.loop-end.invariant.place;
  within = walked-within c.loop-end.now.at c.args.start.at c.loop-end.at c.loop-end.invariant.place (length c.args.piece.now) c.loop-end.invariant.within;
  left = subst (λ (n : ℕ). IsNoneWhole c.args.piece.now c.args.is_last n) (walked c.loop-end.now.at c.args.start.at c.loop-end.at c.loop-end.invariant.place) c.in_default.ensures;
  measured = c.loop-end.invariant.measured;
  room = c.loop-end.invariant.room;
  long = tt;
  first = tt;
}

pub with_line-requires-clause-sound : goal.with_line-requires-clause-sound
with_line-requires-clause-sound c = c.loop-end.invariant.sound

pub with_line-requires-clause-small : goal.with_line-requires-clause-small
with_line-requires-clause-small c = c.requires.small
