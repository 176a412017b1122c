use Rattle.std.proofs.Common.{◌≡◌, ◌<◌, ◌^◌, [], length, take, drop}
use Rattle.std.specs.Prelude.{pos, ◌≤ℤ◌, ◌-ℤ◌, sum_by}
use Rattle.hunk_core.specs.declared.Hunk.{Hunk}
use Rattle.hunk_core.specs.PlainHunk.{hunks_of}
use Rattle.reject_text.specs.Starts.{net}
use Rattle.reject_text.specs.Rejects.{rows_of}
use Rattle.patch_options.specs.PlainJob.{plain_options}
use Rattle.apply_outcome.specs.HunksSaid.{hunks_said}
use Rattle.apply_outcome.proofs.Telling.{HasSaid}
use Rattle.apply_outcome.proofs.saying.say_hunks.Given as goal

abbrev pub invariant-loop-i : goal.invariant-loop-i
invariant-loop-i g l =
    let rows = rows_of l.side (hunks_of l.text l.hunks) l.verdicts in
    let o = plain_options l.options in
    record {
      said : HasSaid g.O.Sink.view g.O.Sink.same_rest l.fn.out l.out (hunks_said o l.end (take l.i rows) (drop l.i rows)) (hunks_said o l.end [] rows);
      is : l.net ≡ net (take l.i rows);
      small : sum_by (λ (h : Hunk). length h.body.items) (take l.i l.hunks) < 2 ^ 32;
      high : l.net ≤ℤ pos (sum_by (λ (h : Hunk). length h.body.items) (take l.i l.hunks));
      low : (pos 0 -ℤ pos (sum_by (λ (h : Hunk). length h.body.items) (take l.i l.hunks))) ≤ℤ l.net;
    }
