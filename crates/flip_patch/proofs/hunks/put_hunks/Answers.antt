use Rattle.std.proofs.Common.{◌≡◌, length, arith, subst, sym}
use Rattle.std.proofs.lemmas.Result.{err_from_is_err_and}
use Rattle.hunk_core.specs.PlainHunk.{hunk_of}
use Rattle.hunk_core.specs.Turned.{swapped, IsLawful}
use Rattle.line_list.proofs.Elements.{found}
use Rattle.flip_patch.specs.Flipped.{hunk_text}
use Rattle.outside.proofs.Loops.{goes-on, stops, ends}
use Rattle.flip_patch.proofs.Placed.{flat-swapped}
use Rattle.outside.proofs.SinkSteps.{has-none}
use Rattle.flip_patch.specs.Ordered.{IsOrdered}
use Rattle.flip_patch.proofs.hunks.put_hunks.Goals as goal

pub returns-in_err-put_hunk : goal.returns-in_err-put_hunk
returns-in_err-put_hunk g c =
    let xs = c.args.hunks.now in
    let q = err_from_is_err_and c.from_residual.result c.from_residual.ensures.1 in
    rw (q.1, flat-swapped c.args.text.now c.args.form xs)
    (stops (λ h. hunk_text c.args.form (swapped (hunk_of c.args.text.now h))) xs g.met.O.Sink.rest_both c.loop-i.i c.index-hunks-i.result c.in_err-put_hunk.field-0.0 q.0
    c.loop-i-test.true (found xs c.loop-i.i c.index-hunks-i.result c.loop-i-test.true c.index-hunks-i.is) c.loop-i.invariant c.in_err-put_hunk.ensures)

pub loop-i-preserved : goal.loop-i-preserved
loop-i-preserved g c =
    let xs = c.args.hunks.now in
    goes-on (λ h. hunk_text c.args.form (swapped (hunk_of c.args.text.now h))) xs g.met.O.Sink.rest_both c.loop-i.i c.index-hunks-i.result c.in_ok-put_hunk.field-0
    c.loop-i-test.true (found xs c.loop-i.i c.index-hunks-i.result c.loop-i-test.true c.index-hunks-i.is) c.loop-i.invariant c.in_ok-put_hunk.ensures

pub returns : goal.returns
returns g c =
    let xs = c.args.hunks.now in
    let end : c.loop-i.i ≡ length xs = omega (arith, c.loop-i-test.false, c.loop-i.auto.i-end) in
    rw (flat-swapped c.args.text.now c.args.form xs) (ends (λ h. hunk_text c.args.form (swapped (hunk_of c.args.text.now h))) xs g.met.O.Sink.rest_both c.loop-i.i _ end c.loop-i.invariant)

pub loop-i-init : goal.loop-i-init
loop-i-init g c = has-none g.met.O.Sink.rest_none c.args.out.now

pub put_hunk-requires-clause-order : goal.put_hunk-requires-clause-order
put_hunk-requires-clause-order g c = subst (IsOrdered c.args.form) (sym c.index-hunks-i.is) (c.requires.order c.loop-i.i c.index-hunks-i.result c.loop-i-test.true)

pub put_hunk-requires-clause-lawful : goal.put_hunk-requires-clause-lawful
put_hunk-requires-clause-lawful g c = subst (IsLawful c.args.text.now) (sym c.index-hunks-i.is) (c.requires.lawful c.loop-i.i c.index-hunks-i.result c.loop-i-test.true)

pub bounds-hunks-i : goal.bounds-hunks-i
bounds-hunks-i g c = c.loop-i-test.true
