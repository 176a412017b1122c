use Rattle.std.proofs.Common.{◌≡◌, ◌+◌, ◌-◌, ◌≤◌, ℕ, List, length}
use Rattle.page_pair.specs.Reading.{IsPart, IsMeasured}
use Rattle.page_pair.specs.Measuring.{IsSound}
use Rattle.page_pair.specs.Room.{HasRoom}
use Rattle.page_pair.proofs.measuring.measure_lines.Given as goal

abbrev pub invariant-loop-end : goal.invariant-loop-end
invariant-loop-end l = record {
  place : l.now.at ≡ l.fn.start.at + l.at;
  within : l.at ≤ length l.piece;
  sound : IsSound l.now l.most;
  measured : (text : List ℕ) → IsPart text l.piece l.fn.start.at l.is_last → IsMeasured text l.fn.start.at l.fn.start.count l.fn.start.longest → IsMeasured text l.now.at l.now.count l.now.longest;
  room : (text : List ℕ) → IsPart text l.piece l.fn.start.at l.is_last → HasRoom (l.most + 4) text l.fn.start.at l.fn.start.room → HasRoom (l.most + 4) text l.now.at l.now.room;
}

abbrev pub decreases-loop-end : goal.decreases-loop-end
decreases-loop-end l = length l.piece - l.at
