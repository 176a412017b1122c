use Rattle.std.proofs.Common.{◌≡◌, ◌+◌, ◌-◌, ◌<◌, ◌≤◌, ℕ, List, drop, Some, true}
use Rattle.line_store.specs.Store.{Keeps, line_at}
use Rattle.hunk_place.specs.Loose.{same_line}
use Rattle.hunk_place.specs.Taken.{side_lines}
use Rattle.hunk_place.proofs.pattern.Pattern.fits_at.Given as goal

abbrev pub invariant-loop-k : goal.invariant-loop-k
invariant-loop-k g l = record {
  keeps : Keeps (g.S.LineStore.seen l.fn.store) (g.S.LineStore.seen l.store);
  low : l.self.front ≤ l.i;
  rest : side_lines l.self.text.now l.self.side (drop l.k l.self.hunk.now.body.items) ≡ drop l.i (side_lines l.self.text.now l.self.side l.self.hunk.now.body.items);
  same : (lines : List (List ℕ)) → (g.S.LineStore.seen l.fn.store).told ≡ Some lines → (n : ℕ) → l.self.front < n → n ≤ l.i → same_line l.self.loose (line_at (side_lines l.self.text.now l.self.side l.self.hunk.now.body.items) n) (line_at lines (l.at + n - 1)) ≡ true;
}
