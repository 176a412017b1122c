use Rattle.std.proofs.Common.{◌≡◌, ◌+◌, ◌<◌, ◌++◌, ◌∷◌, [], arith}
use Rattle.std.proofs.lemmas.Result.{err_from_is_err_and}
use Rattle.std.proofs.lemmas.List.{map_push, length-append}
use Rattle.std.proofs.lemmas.List.Elements.{All-push}
use Rattle.hunk_core.specs.Turned.{LiesIn}
use Rattle.hunk_core.specs.PlainHunk.{marked_of, body_of}
use Rattle.hunk_core.specs.Reading.{ahead_of}
use Rattle.unified_form.specs.Bodies.{body_at}
use Rattle.unified_form.proofs.Loops.{body_begins, body_goes_on, body_fails, body_done}
use Rattle.outside.proofs.Exits.{if_ok_none}
use Rattle.unified_form.proofs.ReaderExits.{at_most, with_none}
use Rattle.unified_form.proofs.body.fill_body.Goals as goal
use Rattle.unified_form.proofs.body.fill_body.Goals.{then-left-gt0, else-left-gt0+then-left-gt0-2}

pub returns-in_err-line-clause-exact : goal.returns-in_err-line-clause-exact
returns-in_err-line-clause-exact c =
    let p = err_from_is_err_and c.from_residual.result c.from_residual.ensures.1 in
    let some : 0 < c.loop-left.left.old + c.loop-left.left.new = elim c.if-left-gt0.branch [ then-left-gt0 w ↦ omega arith | else-left-gt0+then-left-gt0-2 w ↦ omega arith ] in
    rw (p.1, p.2) (body_fails c.in_err-line.field-0.0 (body_of c.args.text.now c.loop-left.lines.items) c.loop-left.left (ahead_of c.args.text.now c.loop-left.place) _ some c.in_err-line.ensures.exact c.loop-left.invariant.so_far)

pub loop-left-preserved : goal.loop-left-preserved
loop-left-preserved c =
    let some : 0 < c.loop-left.left.old + c.loop-left.left.new = elim c.if-left-gt0.branch [ then-left-gt0 w ↦ omega arith | else-left-gt0+then-left-gt0-2 w ↦ omega arith ] in
    let e : body_of c.args.text.now c.push.new.self.items ≡ body_of c.args.text.now c.loop-left.lines.items ++ marked_of c.args.text.now c.in_ok-line.line ∷ [] = rw c.in_ok-push.ensures.items (map_push _ c.loop-left.lines.items c.in_ok-line.line) in
    record {
      feeds = c.line_of.ensures.feeds;
      place = c.in_ok-line.ensures.place.0;
      later = omega (arith, c.in_ok-line.ensures.place.1, c.loop-left.invariant.later);
      few = rw c.in_ok-push.ensures.items (simp length-append (omega (arith, c.in_ok-line.ensures.place.1, c.loop-left.invariant.few)));
      lies = rw c.in_ok-push.ensures.items (All-push (λ x. LiesIn c.args.text.now x.span) c.loop-left.lines.items c.in_ok-line.line c.loop-left.invariant.lies c.in_ok-line.ensures.lies);
      so_far = rw e (body_goes_on (body_of c.args.text.now c.loop-left.lines.items) c.loop-left.left (ahead_of c.args.text.now c.loop-left.place) (marked_of c.args.text.now c.in_ok-line.line, c.in_ok-line.behind, ahead_of c.args.text.now c.in_ok-line.next) (body_at (c.args.left.old + c.args.left.new) c.args.left (ahead_of c.args.text.now c.args.place)) some c.in_ok-line.ensures.less c.in_ok-line.ensures.exact c.loop-left.invariant.so_far);
    }

pub returns-clause-exact : goal.returns-clause-exact
returns-clause-exact c = body_done (body_of c.args.text.now c.loop-left.lines.items) c.loop-left.left (ahead_of c.args.text.now c.loop-left.place) _ (omega arith) c.loop-left.invariant.so_far

pub line_of-requires-clause-place : goal.line_of-requires-clause-place
line_of-requires-clause-place c = c.loop-left.invariant.place

pub returns-in_err-line-clause-place : goal.returns-in_err-line-clause-place
returns-in_err-line-clause-place c = if_ok_none _ _ c.from_residual.result c.from_residual.ensures.1

pub returns-in_err-line-clause-few : goal.returns-in_err-line-clause-few
returns-in_err-line-clause-few c = if_ok_none _ _ c.from_residual.result c.from_residual.ensures.1

pub returns-in_err-line-clause-lies : goal.returns-in_err-line-clause-lies
returns-in_err-line-clause-lies c = if_ok_none _ _ c.from_residual.result c.from_residual.ensures.1

pub returns-in_err-push-clause-place : goal.returns-in_err-push-clause-place
returns-in_err-push-clause-place c = if_ok_none _ _ c.from_residual-in_err-push.result c.from_residual-in_err-push.ensures.1

pub returns-in_err-push-clause-few : goal.returns-in_err-push-clause-few
returns-in_err-push-clause-few c = if_ok_none _ _ c.from_residual-in_err-push.result c.from_residual-in_err-push.ensures.1

pub returns-in_err-push-clause-lies : goal.returns-in_err-push-clause-lies
returns-in_err-push-clause-lies c = if_ok_none _ _ c.from_residual-in_err-push.result c.from_residual-in_err-push.ensures.1

pub returns-in_err-push-clause-exact : goal.returns-in_err-push-clause-exact
returns-in_err-push-clause-exact c =
    let p = err_from_is_err_and c.from_residual-in_err-push.result c.from_residual-in_err-push.ensures.1 in
    rw (p.1, p.2) tt

pub returns-clause-place : goal.returns-clause-place
returns-clause-place c = (c.loop-left.invariant.place, c.loop-left.invariant.later)

pub returns-clause-lies : goal.returns-clause-lies
returns-clause-lies c = c.loop-left.invariant.lies

pub loop-left-init : goal.loop-left-init
loop-left-init c = rw c.clear.ensures.items (record {
  feeds = c.requires.feeds;
  place = c.requires.place;
  later = at_most c.args.place.at;
  few = with_none c.args.place.at;
  lies = λ k d l. absurd (omega (arith, l));
  so_far = body_begins c.args.left (ahead_of c.args.text.now c.args.place);
})

pub returns-clause-feeds : goal.returns-clause-feeds
returns-clause-feeds c = c.loop-left.invariant.feeds

pub loop-left-smaller : goal.loop-left-smaller
loop-left-smaller c = c.in_ok-line.ensures.less

pub line_of-requires-clause-feeds : goal.line_of-requires-clause-feeds
line_of-requires-clause-feeds c = c.loop-left.invariant.feeds

pub returns-in_err-push-clause-feeds : goal.returns-in_err-push-clause-feeds
returns-in_err-push-clause-feeds c = c.line_of.ensures.feeds

pub returns-in_err-line-clause-feeds : goal.returns-in_err-line-clause-feeds
returns-in_err-line-clause-feeds c = c.line_of.ensures.feeds
