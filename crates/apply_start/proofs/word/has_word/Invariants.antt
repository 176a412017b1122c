use Rattle.std.proofs.Common.{◌≡◌, ℕ, List, take, Some, false}
use Rattle.std.specs.List.{list_any}
use Rattle.line_store.specs.Store.{Keeps}
use Rattle.apply_start.specs.Start.{line_has_word}
use Rattle.apply_start.proofs.word.has_word.Given as goal

abbrev pub invariant-loop-k : goal.invariant-loop-k
invariant-loop-k g l = record {
  keeps : Keeps (g.S.LineStore.seen l.fn.store) (g.S.LineStore.seen l.store);
  none : (lines : List (List ℕ)) → (g.S.LineStore.seen l.fn.store).told ≡ Some lines → list_any (line_has_word l.word) (take l.k lines) ≡ false;
}
