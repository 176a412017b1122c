use Rattle.std.proofs.Common.{◌≡◌, ◌-◌, ◌≤◌, ℕ, List, Some, length, take}
use Rattle.line_store.specs.Store.{Keeps}
use Rattle.hunk_apply.specs.Gathering.{Gathers}
use Rattle.hunk_apply.proofs.gather.gather_lines.Given as goal

abbrev pub invariant-loop-end : goal.invariant-loop-end
invariant-loop-end g l =
    record {
      most : l.count ≤ l.most;
      room : l.bytes ≤ length l.block;
      lines : (lines : List (List ℕ)) → (g.S.LineStore.seen l.fn.store).told ≡ Some lines → Gathers lines l.q l.count (take l.bytes l.block);
      keeps : Keeps (g.S.LineStore.seen l.fn.store) (g.S.LineStore.seen l.store);
    }

abbrev pub decreases-loop-end : goal.decreases-loop-end
decreases-loop-end g l = l.most - l.count
