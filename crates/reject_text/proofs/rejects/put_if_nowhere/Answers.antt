use Rattle.std.proofs.Common.{ℕ, List, ap, sym, subst, ◌∙◌, w64}
use Rattle.std.specs.Prelude.{ℤ}
use Rattle.std.specs.List.{flat_map}
use Rattle.std.proofs.lemmas.Int.{to_z-of_z}
use Rattle.outside.specs.Puts.{Puts}
use Rattle.hunk_core.specs.declared.Verdict.{Verdict}
use Rattle.hunk_core.specs.PlainHunk.{hunk_of}
use Rattle.hunk_core.specs.Turned.{turned}
use Rattle.patch_header.specs.Written.{hunk_text}
use Rattle.reject_text.specs.Rejects.{reject_of}
use Rattle.reject_text.specs.Starts.{moved}
use Rattle.reject_text.proofs.Signed.{high-kept, low-kept, text-of-one, none-rejected}
use Rattle.outside.proofs.SinkSteps.{HasPut, has-none, puts-done}
use Rattle.reject_text.proofs.rejects.put_if_nowhere.Goals as goal

pub returns-in-Untried : goal.returns-in-Untried
returns-in-Untried g c = puts-done _ (subst (λ (bs : List ℕ). HasPut g.O.Sink.view g.O.Sink.same_rest c.args.out.now c.args.out.now bs)
    (sym (none-rejected (hunk_text c.args.form) c.args.net (turned c.args.side (hunk_of c.args.text.now c.args.hunk.now)) c.args.verdict c.in-Untried.is))
    (has-none g.met.O.Sink.rest_none c.args.out.now))

pub returns-in-Nowhere : goal.returns-in-Nowhere
returns-in-Nowhere g c =
    let h = turned c.args.side (hunk_of c.args.text.now c.args.hunk.now) in
    subst (λ (bs : List ℕ). Puts g.O.Sink.view g.O.Sink.same_rest c.args.out.now c.put_moved.new.out c.put_moved.result bs)
    (ap (λ (n : ℤ). hunk_text c.args.form (moved n h)) (to_z-of_z w64 c.args.net c.ranges.net)
    ∙ sym (text-of-one (hunk_text c.args.form) (moved c.args.net h))
    ∙ sym (ap (λ (v : Verdict). flat_map (hunk_text c.args.form) (reject_of c.args.net (h, v))) c.in-Nowhere.is))
    c.put_moved.ensures

pub put_moved-requires-clause-lawful : goal.put_moved-requires-clause-lawful
put_moved-requires-clause-lawful g c = c.requires.lawful

pub put_moved-requires-clause-high : goal.put_moved-requires-clause-high
put_moved-requires-clause-high g c = high-kept c.args.net c.ranges.net c.requires.high

pub put_moved-requires-clause-low : goal.put_moved-requires-clause-low
put_moved-requires-clause-low g c = low-kept c.args.net c.ranges.net c.requires.low

pub put_moved-requires-clause-form : goal.put_moved-requires-clause-form
put_moved-requires-clause-form g c = c.requires.form
