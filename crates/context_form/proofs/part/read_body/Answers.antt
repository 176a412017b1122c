use Rattle.std.proofs.Common.{◌≡◌, ◌++◌, ◌∷◌, [], true, false, drop, sym, ◌∙◌, arith}
use Rattle.std.proofs.lemmas.Result.{err_from_is_err_and}
use Rattle.std.proofs.lemmas.List.{map_push, length-append}
use Rattle.std.proofs.lemmas.List.Elements.{All-push}
use Rattle.line_list.specs.Lines.{lines}
use Rattle.hunk_core.specs.Turned.{LiesIn}
use Rattle.hunk_core.specs.PlainHunk.{marked_of, body_of}
use Rattle.hunk_core.specs.Reading.{ahead_of}
use Rattle.context_form.specs.Parts.{is_done}
use Rattle.context_form.proofs.Loops.{body_goes_on, body_fails, body_done}
use Rattle.outside.proofs.Exits.{if_ok_none}
use Rattle.context_form.proofs.part.read_body.Goals as goal

pub returns-in_err-line-clause-exact : goal.returns-in_err-line-clause-exact
returns-in_err-line-clause-exact c =
    let p = err_from_is_err_and c.from_residual-in_err-line.result c.from_residual-in_err-line.ensures.1 in
    let on : is_done c.args.side c.body.left (lines (drop c.body.place.at c.args.text.now)) ≡ false = sym c.body-test.ensures in
    rw (p.1, p.2) (body_fails c.in_err-line.field-0.0 c.args.side c.body.left (record { lines = body_of c.args.text.now c.body.lines.items; changed = c.body.changed }) (ahead_of c.args.text.now c.body.place) _ on c.in_err-line.ensures.exact c.body.invariant.same)

pub body-preserved : goal.body-preserved
body-preserved c =
    let on : is_done c.args.side c.body.left (lines (drop c.body.place.at c.args.text.now)) ≡ false = sym c.body-test.ensures in
    let e : body_of c.args.text.now c.push.new.self.items ≡ body_of c.args.text.now c.body.lines.items ++ marked_of c.args.text.now c.in_ok-line.line ∷ [] = rw c.in_ok-push.ensures.items (map_push _ c.body.lines.items c.in_ok-line.line) in
    record {
      place = c.in_ok-line.ensures.place.0;
      later = omega (arith, c.in_ok-line.ensures.place.1, c.body.invariant.later);
      few = rw c.in_ok-push.ensures.items (simp length-append (omega (arith, c.in_ok-line.ensures.place.1, c.body.invariant.few)));
      lies = rw c.in_ok-push.ensures.items (All-push (λ x. LiesIn c.args.text.now x.span) c.body.lines.items c.in_ok-line.line c.body.invariant.lies c.in_ok-line.ensures.lies);
      same = rw e (body_goes_on c.args.side c.body.left (record { lines = body_of c.args.text.now c.body.lines.items; changed = c.body.changed }) (ahead_of c.args.text.now c.body.place) ((marked_of c.args.text.now c.in_ok-line.line, c.in_ok-line.is_change), ahead_of c.args.text.now c.in_ok-line.next) on c.in_ok-line.ensures.some c.in_ok-line.ensures.exact ∙ c.body.invariant.same);
    }

pub returns-clause-exact : goal.returns-clause-exact
returns-clause-exact c =
    let done : is_done c.args.side c.body.left (lines (drop c.body.place.at c.args.text.now)) ≡ true = sym c.body-test.ensures in
    sym c.body.invariant.same ∙ body_done c.args.side c.body.left (record { lines = body_of c.args.text.now c.body.lines.items; changed = c.body.changed }) (ahead_of c.args.text.now c.body.place) done

pub lines_ahead-requires : goal.lines_ahead-requires
lines_ahead-requires c = c.requires.within

pub returns-in_err-lines : goal.returns-in_err-lines
returns-in_err-lines c =
    let p = err_from_is_err_and c.from_residual.result c.from_residual.ensures.1 in
    rw (p.1, p.2) (record { place = tt; few = tt; lies = tt; exact = tt })

pub ends_part-requires : goal.ends_part-requires
ends_part-requires c = c.body.invariant.place.within

pub line_of-requires : goal.line_of-requires
line_of-requires c = c.body.invariant.place

pub returns-in_err-line-clause-place : goal.returns-in_err-line-clause-place
returns-in_err-line-clause-place c = if_ok_none _ _ c.from_residual-in_err-line.result c.from_residual-in_err-line.ensures.1

pub returns-in_err-line-clause-few : goal.returns-in_err-line-clause-few
returns-in_err-line-clause-few c = if_ok_none _ _ c.from_residual-in_err-line.result c.from_residual-in_err-line.ensures.1

pub returns-in_err-line-clause-lies : goal.returns-in_err-line-clause-lies
returns-in_err-line-clause-lies c = if_ok_none _ _ c.from_residual-in_err-line.result c.from_residual-in_err-line.ensures.1

pub returns-in_err-push : goal.returns-in_err-push
returns-in_err-push c =
    let p = err_from_is_err_and c.from_residual-in_err-push.result c.from_residual-in_err-push.ensures.1 in
    rw (p.1, p.2) (record { place = tt; few = tt; lies = tt; exact = tt })

pub returns-clause-place : goal.returns-clause-place
returns-clause-place c = (c.body.invariant.place, c.body.invariant.later)

pub returns-clause-lies : goal.returns-clause-lies
returns-clause-lies c = c.body.invariant.lies

pub overflow_sub-left : goal.overflow_sub-left
overflow_sub-left c = omega (arith, c.in_ok-line.ensures.some)

pub body-smaller : goal.body-smaller
body-smaller c = omega (arith, c.in_ok-line.ensures.place.1, c.in_ok-line.ensures.place.0.within)

pub returns-clause-few : goal.returns-clause-few
returns-clause-few c = omega (arith, c.body.invariant.few, c.body.lines.ok.0)
