use Rattle.unified_form.proofs.ReaderExits.{at_most}
use Rattle.std.proofs.Common.{◌+◌, ◌<◌, arith}
use Rattle.std.proofs.lemmas.Result.{err_from_is_err_and}
use Rattle.hunk_core.specs.Reading.{ahead_of}
use Rattle.unified_form.proofs.Skimming.{body_past_begins, body_past_goes_on, body_past_fails, body_past_done}
use Rattle.unified_form.proofs.hunk_scan.pass_body.Goals as goal
use Rattle.unified_form.proofs.hunk_scan.pass_body.Goals.{then-left-gt0, else-left-gt0+then-left-gt0-2}

pub returns-in_err-behind-clause-exact : goal.returns-in_err-behind-clause-exact
returns-in_err-behind-clause-exact c =
    let p = err_from_is_err_and c.from_residual.result c.from_residual.ensures.1 in
    let some : 0 < c.loop-left.left.old + c.loop-left.left.new = elim c.if-left-gt0.branch [ then-left-gt0 w ↦ omega arith | else-left-gt0+then-left-gt0-2 w ↦ omega arith ] in
    rw (p.1, p.2) (body_past_fails c.in_err-behind.field-0.0 c.loop-left.left (ahead_of c.args.text.now c.loop-left.place) _ some c.in_err-behind.ensures.exact c.loop-left.invariant.so_far)

pub loop-left-preserved : goal.loop-left-preserved
loop-left-preserved c =
    let some : 0 < c.loop-left.left.old + c.loop-left.left.new = elim c.if-left-gt0.branch [ then-left-gt0 w ↦ omega arith | else-left-gt0+then-left-gt0-2 w ↦ omega arith ] in
    let text = c.args.text.now in
    record {
      feeds = c.pass_line.ensures.feeds;
      place = c.in_ok-behind.ensures.place.0;
      later = omega (arith, c.in_ok-behind.ensures.place.1, c.loop-left.invariant.later);
      so_far = body_past_goes_on c.loop-left.left (ahead_of text c.loop-left.place) (c.in_ok-behind.behind, ahead_of text c.in_ok-behind.next) _ some c.in_ok-behind.ensures.less c.in_ok-behind.ensures.exact c.loop-left.invariant.so_far;
    }

pub returns-clause-exact : goal.returns-clause-exact
returns-clause-exact c = body_past_done c.loop-left.left (ahead_of c.args.text.now c.loop-left.place) _ (omega arith) c.loop-left.invariant.so_far

pub loop-left-init : goal.loop-left-init
loop-left-init c = record { feeds = c.requires.feeds; place = c.requires.place; later = at_most c.args.place.at; so_far = body_past_begins c.args.left (ahead_of c.args.text.now c.args.place) }

pub pass_line-requires-clause-feeds : goal.pass_line-requires-clause-feeds
pass_line-requires-clause-feeds c = c.loop-left.invariant.feeds

pub loop-left-smaller : goal.loop-left-smaller
loop-left-smaller c = c.in_ok-behind.ensures.less

pub returns-clause-feeds : goal.returns-clause-feeds
returns-clause-feeds c = c.loop-left.invariant.feeds

pub returns-clause-place : goal.returns-clause-place
returns-clause-place c = (c.loop-left.invariant.place, c.loop-left.invariant.later)
