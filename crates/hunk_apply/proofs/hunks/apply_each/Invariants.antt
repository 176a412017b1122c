use Rattle.std.proofs.Common.{◌≡◌, ◌≤◌, ◌+◌, ◌^◌, ◌++◌, ℕ, List, Some, take, drop, false, true}
use Rattle.std.specs.Prelude.{pos, negsuc, ◌≤ℤ◌, ◌-ℤ◌}
use Rattle.std.specs.List.{All}
use Rattle.line_store.specs.Store.{Keeps}
use Rattle.hunk_place.specs.Verdicts.{verdicts, spots, at_start}
use Rattle.hunk_apply.specs.Applied.{taken_all}
use Rattle.hunk_apply.specs.Splice.{all_edits, spliced_from}
use Rattle.hunk_apply.specs.Written.{Wrote}
use Rattle.hunk_apply.specs.Session.{IsTried, body_lines}
use Rattle.outside.specs.SinkView.{SinkPasses}
use Rattle.hunk_apply.proofs.hunks.apply_each.Given as goal

abbrev pub invariant-loop-j : goal.invariant-loop-j
invariant-loop-j g l =
    let view = g.O.Sink.view in
    let edits_of = λ (lines : List (List ℕ)). all_edits (spots lines l.fuzz l.loose l.state (taken_all l.text l.side (drop l.j l.hunks))) (taken_all l.text l.side (drop l.j l.hunks)) in
    record {
      keeps : Keeps (g.S.LineStore.seen l.fn.store) (g.S.LineStore.seen l.store);
      sink : SinkPasses (view l.fn.out) (view l.out);
      rest : g.O.Sink.same_rest l.fn.out l.out;
      within : l.state.consumed ≤ (g.S.LineStore.seen l.fn.store).count;
      far_back : negsuc (2 ^ 41) ≤ℤ l.state.offset;
      far_on : l.state.offset ≤ℤ pos (2 ^ 41);
      net_above : (pos 0 -ℤ pos (body_lines (take l.j l.hunks))) ≤ℤ l.state.net;
      net_below : l.state.net ≤ℤ pos (body_lines (take l.j l.hunks));
      tried : All IsTried (take l.j l.verdicts);
      others : drop l.j l.verdicts ≡ drop l.j l.fn.verdicts;
      placed : (lines : List (List ℕ)) → (g.S.LineStore.seen l.fn.store).told ≡ Some lines → verdicts lines l.fuzz l.loose at_start (taken_all l.text l.side l.hunks) ≡ take l.j l.verdicts ++ verdicts lines l.fuzz l.loose l.state (taken_all l.text l.side (drop l.j l.hunks));
      written : (lines : List (List ℕ)) → (g.S.LineStore.seen l.fn.store).told ≡ Some lines → Wrote (view l.fn.out) (view l.out) (record { is_open = false; is_empty = true }) l.tail (spliced_from lines (all_edits (spots lines l.fuzz l.loose at_start (taken_all l.text l.side l.hunks)) (taken_all l.text l.side l.hunks)) 1) (spliced_from lines (edits_of lines) (l.state.consumed + 1));
    }
