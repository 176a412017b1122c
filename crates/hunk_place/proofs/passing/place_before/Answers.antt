use Rattle.std.proofs.Common.{◌<◌, ◌≤◌, sym, subst}
use Rattle.std.specs.Prelude.{IfSome}
use Rattle.hunk_place.specs.Passing.{SkipsBack}
use Rattle.hunk_place.specs.Placing.{fits}
use Rattle.hunk_place.specs.Taken.{taken_lines}
use Rattle.hunk_place.proofs.PassLemmas.{skips-back}
use Rattle.std.proofs.lemmas.Result.{IfOk-from_err}
use Rattle.hunk_place.proofs.NumberLemmas.{moved-within, behind-front}
use Rattle.hunk_place.proofs.passing.place_before.Goals as goal

pub returns-in_ok-found-in-Some-clause-value : goal.returns-in_ok-found-in-Some-clause-value
returns-in_ok-found-in-Some-clause-value g c lines told back last =
    subst (SkipsBack (fits lines (taken_lines c.args.pattern.now.text.now c.args.pattern.now.side c.args.pattern.now.hunk.now) c.args.pattern.now.loose c.args.pattern.now.front back) c.args.from c.args.to) (sym c.moved_back.ensures)
    (skips-back c.args.pattern.now c.in-Some.line.now lines back c.args.from c.args.to c.in_ok-found-in-Some.found c.in-Some.ensures last (c.in_ok-found-in-Some.ensures.value lines told))

pub returns-in_err-found-in-Some-clause-value : goal.returns-in_err-found-in-Some-clause-value
returns-in_err-found-in-Some-clause-value g c = IfOk-from_err c.from_residual.result _ c.from_residual.ensures.0

pub returns-in_err-found-in-Some-clause-within : goal.returns-in_err-found-in-Some-clause-within
returns-in_err-found-in-Some-clause-within g c = IfOk-from_err c.from_residual.result _ c.from_residual.ensures.0

pub returns-in_err-found-in-Some-clause-keeps : goal.returns-in_err-found-in-Some-clause-keeps
returns-in_err-found-in-Some-clause-keeps g c = c.in_err-found-in-Some.ensures.keeps

pub returns-in_ok-found-in-Some-clause-within : goal.returns-in_ok-found-in-Some-clause-within
returns-in_ok-found-in-Some-clause-within g c = subst (λ o. IfSome o (λ w. (c.args.from ≤ w) × (w < c.args.to))) (sym c.moved_back.ensures) (moved-within c.args.from c.args.to c.args.pattern.now.front c.in_ok-found-in-Some.found c.in_ok-found-in-Some.ensures.within)

pub moved_back-requires : goal.moved_back-requires
moved_back-requires g c = behind-front c.args.from c.args.to c.args.pattern.now.front c.in_ok-found-in-Some.found c.in_ok-found-in-Some.ensures.within
