use Rattle.std.proofs.Common.{◌≡◌, ◌<◌, ◌^◌, length, take}
use Rattle.std.specs.Prelude.{pos, ◌≤ℤ◌, ◌-ℤ◌, sum_by}
use Rattle.hunk_core.specs.declared.Hunk.{Hunk}
use Rattle.hunk_core.specs.PlainHunk.{hunks_of}
use Rattle.outside.proofs.SinkSteps.{HasPut}
use Rattle.reject_text.specs.Starts.{net}
use Rattle.reject_text.specs.Rejects.{rows_of}
use Rattle.reject_text.proofs.Rows.{text_to}
use Rattle.reject_text.proofs.rejects.put_each.Given as goal

abbrev pub invariant-loop-i : goal.invariant-loop-i
invariant-loop-i g l =
    let rows = rows_of l.side (hunks_of l.text l.hunks) l.verdicts in
    record {
      put : HasPut g.O.Sink.view g.O.Sink.same_rest l.fn.out l.out (text_to l.form rows l.i);
      is : l.net ≡ net (take l.i rows);
      small : sum_by (λ (h : Hunk). length h.body.items) (take l.i l.hunks) < 2 ^ 32;
      high : l.net ≤ℤ pos (sum_by (λ (h : Hunk). length h.body.items) (take l.i l.hunks));
      low : (pos 0 -ℤ pos (sum_by (λ (h : Hunk). length h.body.items) (take l.i l.hunks))) ≤ℤ l.net;
    }
