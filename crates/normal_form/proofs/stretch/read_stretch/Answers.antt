use Rattle.std.proofs.Common.{◌≡◌, ◌++◌, ◌∷◌, [], sym, ap, ◌∙◌, arith}
use Rattle.std.proofs.lemmas.Result.{err_from_is_err_and}
use Rattle.std.proofs.lemmas.List.{map_push, length-append}
use Rattle.std.proofs.lemmas.List.Elements.{All-push}
use Rattle.hunk_core.specs.Turned.{LiesIn}
use Rattle.hunk_core.specs.PlainHunk.{marked_of, body_of}
use Rattle.hunk_core.specs.Reading.{ahead_of}
use Rattle.normal_form.specs.Stretches.{stretch_at}
use Rattle.normal_form.proofs.Loops.{stretch_goes_on, stretch_fails, stretch_none}
use Rattle.outside.proofs.Exits.{if_ok_none}
use Rattle.normal_form.proofs.stretch.read_stretch.Goals as goal

pub returns-in_err-line-clause-exact : goal.returns-in_err-line-clause-exact
returns-in_err-line-clause-exact c =
    let p = err_from_is_err_and c.from_residual.result c.from_residual.ensures.1 in
    rw (p.1, p.2) (stretch_fails c.in_err-line.field-0.0 c.args.side c.loop-left.left (body_of c.args.text.now c.loop-left.lines.items) (ahead_of c.args.text.now c.loop-left.place) _ (omega arith) c.in_err-line.ensures.exact c.loop-left.invariant.same)

pub loop-left-preserved : goal.loop-left-preserved
loop-left-preserved c =
    let e : body_of c.args.text.now c.push.new.self.items ≡ body_of c.args.text.now c.loop-left.lines.items ++ marked_of c.args.text.now c.in_ok-line.line ∷ [] = rw c.in_ok-push.ensures.items (map_push _ c.loop-left.lines.items c.in_ok-line.line) in
    record {
      place = c.in_ok-line.ensures.place.0;
      later = omega (arith, c.in_ok-line.ensures.place.1, c.loop-left.invariant.later);
      few = rw c.in_ok-push.ensures.items (simp length-append (omega (arith, c.in_ok-line.ensures.place.1, c.loop-left.invariant.few)));
      lies = rw c.in_ok-push.ensures.items (All-push (λ x. LiesIn c.args.text.now x.span) c.loop-left.lines.items c.in_ok-line.line c.loop-left.invariant.lies c.in_ok-line.ensures.lies);
      same = rw e (stretch_goes_on c.args.side c.loop-left.left (body_of c.args.text.now c.loop-left.lines.items) (ahead_of c.args.text.now c.loop-left.place) (marked_of c.args.text.now c.in_ok-line.line, ahead_of c.args.text.now c.in_ok-line.next) (omega arith) c.in_ok-line.ensures.exact ∙ c.loop-left.invariant.same);
    }

pub returns-clause-exact : goal.returns-clause-exact
returns-clause-exact c =
    let none : c.loop-left.left ≡ 0 = omega arith in
    sym c.loop-left.invariant.same ∙ ap (λ k. stretch_at c.args.side k (body_of c.args.text.now c.loop-left.lines.items) (ahead_of c.args.text.now c.loop-left.place)) none ∙ stretch_none c.args.side (body_of c.args.text.now c.loop-left.lines.items) (ahead_of c.args.text.now c.loop-left.place)

pub line_of-requires : goal.line_of-requires
line_of-requires c = c.loop-left.invariant.place

pub returns-in_err-line-clause-place : goal.returns-in_err-line-clause-place
returns-in_err-line-clause-place c = if_ok_none _ _ c.from_residual.result c.from_residual.ensures.1

pub returns-in_err-line-clause-few : goal.returns-in_err-line-clause-few
returns-in_err-line-clause-few c = if_ok_none _ _ c.from_residual.result c.from_residual.ensures.1

pub returns-in_err-line-clause-lies : goal.returns-in_err-line-clause-lies
returns-in_err-line-clause-lies c = if_ok_none _ _ c.from_residual.result c.from_residual.ensures.1

pub returns-in_err-push : goal.returns-in_err-push
returns-in_err-push c =
    let p = err_from_is_err_and c.from_residual-in_err-push.result c.from_residual-in_err-push.ensures.1 in
    rw (p.1, p.2) (record { place = tt; few = tt; lies = tt; exact = tt })

pub returns-clause-place : goal.returns-clause-place
returns-clause-place c = (c.loop-left.invariant.place, c.loop-left.invariant.later)

pub returns-clause-lies : goal.returns-clause-lies
returns-clause-lies c = c.loop-left.invariant.lies
