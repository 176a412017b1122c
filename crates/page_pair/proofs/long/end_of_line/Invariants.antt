use Rattle.std.proofs.Common.{◌≡◌, ◌-◌, ◌≤◌, ℕ, List, Some}
use Rattle.outside.specs.Calls.{IsUntouched}
use Rattle.page_pair.specs.Reading.{told_file, GoesTo}
use Rattle.page_pair.proofs.long.end_of_line.Given as goal

abbrev pub invariant-loop-known : goal.invariant-loop-known
invariant-loop-known g l =
    let view = g.T.Tree.view in
    record {
      untouched : IsUntouched (view l.fn.tree) (view l.tree);
      size : l.pair.size ≡ l.fn.pair.size;
      low : l.fn.from ≤ l.known.end;
      high : l.known.end ≤ l.length;
      goes : (text : List ℕ) → told_file (view l.fn.tree) l.name ≡ Some text → GoesTo text l.at l.known.end l.known.is_ended;
    }

abbrev pub decreases-loop-known : goal.decreases-loop-known
decreases-loop-known g l = l.length - l.known.end
