use Rattle.std.proofs.Common.{◌≡◌, true, length, sym, ◌∙◌, arith, rules, pos, w64}
use mir.Val.{SFits}
use Rattle.std.proofs.lemmas.Int.{to_z-of_z}
use Rattle.hunk_core.specs.Sides.{taken_count}
use Rattle.hunk_place.specs.Numbered.{search_with}
use Rattle.hunk_place.specs.Placing.{fits}
use Rattle.hunk_place.specs.Taken.{taken_lines}
use Rattle.hunk_place.proofs.FitLemmas.{taken-length}
use Rattle.hunk_place.proofs.ShortLemmas.{guess-first, pattern-fits}
use Rattle.std.proofs.lemmas.Result.{IfOk-from_err}
use Rattle.hunk_place.proofs.shortcuts.guess_fits.Goals as goal

pub returns-then-branch-clause-value : goal.returns-then-branch-clause-value
returns-then-branch-clause-value g c lines told =
    let count : c.count-count.result ≡ length lines = c.count-count.ensures.is ∙ (c.count-count.ensures.told lines told).count in
    let long : length (taken_lines c.args.text.now c.args.side c.args.hunk.now) ≡ taken_count c.args.side c.args.hunk.now.body.items = taken-length c.args.text.now c.args.side c.args.hunk.now in
    let fit : SFits w64 c.args.numbers.now.guess = search rules in
    let guess : c.args.numbers.now.guess ≡ pos c.in-Some.at = simp to_z-of_z at c.in-Some.ensures.is in
    let hit : fits lines (taken_lines c.args.text.now c.args.side c.args.hunk.now) c.args.loose 0 0 c.in-Some.at ≡ true =
    sym (pattern-fits c.new-pattern.result c.args.text.now c.args.side c.args.hunk.now c.args.loose 0 0 lines c.in-Some.at c.new-pattern.ensures.text c.new-pattern.ensures.hunk c.new-pattern.ensures.side c.new-pattern.ensures.loose c.new-pattern.ensures.front)
    ∙ sym (c.in_ok-fits_at.ensures.value lines told 0 c.new-pattern.ensures.same_last) ∙ c.if-branch.true in
    guess-first (search_with lines (taken_lines c.args.text.now c.args.side c.args.hunk.now) c.args.loose c.args.numbers.now) c.in-Some.at guess (omega arith) (omega (arith, c.in-Some.ensures.low)) (omega (arith, c.in-Some.ensures.high, c.requires.counted)) hit

pub returns-in_err-fits_at-clause-value : goal.returns-in_err-fits_at-clause-value
returns-in_err-fits_at-clause-value g c = IfOk-from_err c.from_residual.result _ c.from_residual.ensures.0

pub returns-in_err-fits_at-clause-within : goal.returns-in_err-fits_at-clause-within
returns-in_err-fits_at-clause-within g c = IfOk-from_err c.from_residual.result _ c.from_residual.ensures.0

pub returns-in_err-fits_at-clause-keeps : goal.returns-in_err-fits_at-clause-keeps
returns-in_err-fits_at-clause-keeps g c = c.in_err-fits_at.ensures.keeps

pub returns-then-branch-clause-keeps : goal.returns-then-branch-clause-keeps
returns-then-branch-clause-keeps g c = c.in_ok-fits_at.ensures.keeps

pub returns-then-branch-clause-cause : goal.returns-then-branch-clause-cause
returns-then-branch-clause-cause g c = tt

pub returns-clause-value : goal.returns-clause-value
returns-clause-value g c = tt

pub returns-clause-within : goal.returns-clause-within
returns-clause-within g c = tt

pub returns-clause-keeps : goal.returns-clause-keeps
returns-clause-keeps g c = c.in_ok-fits_at.ensures.keeps

pub returns-clause-cause : goal.returns-clause-cause
returns-clause-cause g c = tt

pub new-pattern-requires : goal.new-pattern-requires
new-pattern-requires g c = c.requires.lawful

pub fits_at-requires-clause-pattern : goal.fits_at-requires-clause-pattern
fits_at-requires-clause-pattern g c = c.new-pattern.ensures.is
