use Rattle.std.proofs.Common.{◌≡◌, ◌-◌, ◌≤◌, ℕ, List, Some}
use Rattle.outside.specs.Calls.{IsUntouched}
use Rattle.page_pair.specs.Reading.{told_file, IsMeasured}
use Rattle.page_pair.specs.Measuring.{IsSound}
use Rattle.page_pair.specs.Room.{HasRoom}
use Rattle.page_pair.proofs.measuring.measure.Given as goal

abbrev pub invariant-loop-now : goal.invariant-loop-now
invariant-loop-now g l =
    let view = g.T.Tree.view in
    record {
      untouched : IsUntouched (view l.fn.tree) (view l.tree);
      size : l.pair.size ≡ l.fn.pair.size;
      sound : IsSound l.now (l.fn.pair.size - 4);
      within : l.now.at ≤ l.length;
      measured : (text : List ℕ) → told_file (view l.fn.tree) l.name ≡ Some text → IsMeasured text l.now.at l.now.count l.now.longest;
      room : (text : List ℕ) → told_file (view l.fn.tree) l.name ≡ Some text → HasRoom l.fn.pair.size text l.now.at l.now.room;
    }

abbrev pub decreases-loop-now : goal.decreases-loop-now
decreases-loop-now g l = l.length - l.now.at
