use Rattle.std.proofs.Common.{◌≡◌, ◌+◌, ◌-◌, not, max, None, length, sym, ap, subst, ◌∙◌, arith}
use Rattle.line_store.specs.Store.{NoneAlike, IsFirstAlike}
use Rattle.hunk_core.specs.Sides.{taken_count}
use Rattle.hunk_place.proofs.PassLemmas.{none-of}
use Rattle.hunk_place.proofs.ShortLemmas.{hopeless, pattern-search}
use Rattle.std.proofs.lemmas.Result.{IfOk-from_err}
use Rattle.hunk_place.proofs.shortcuts.fits_nowhere.Goals as goal

pub returns-in_ok-found-in-Some-clause-value : goal.returns-in_ok-found-in-Some-clause-value
returns-in_ok-found-in-Some-clause-value g c missed lines told k le =
    let count : c.count-count.result ≡ length lines = c.count-count.ensures.is ∙ (c.count-count.ensures.told lines told).count in
    let missing : c.in_ok-found-in-Some.found ≡ None = none-of c.in_ok-found-in-Some.found (c.is_none.ensures ∙ ap not missed) in
    let none : NoneAlike lines c.in-Some.line.now (c.args.numbers.now.consumed + 1 + c.new-pattern.result.front) (length lines + 1) =
    subst (λ m. NoneAlike lines c.in-Some.line.now (c.args.numbers.now.consumed + 1 + c.new-pattern.result.front) (m + 1)) count
    (subst (IsFirstAlike lines c.in-Some.line.now (c.args.numbers.now.consumed + 1 + c.new-pattern.result.front) (c.count-count.result + 1)) missing (c.in_ok-found-in-Some.ensures.value lines told)) in
    let back : c.saturating_sub-back.result ≡ c.args.most - (max c.args.numbers.now.pre c.args.numbers.now.post - c.args.numbers.now.post) = c.saturating_sub-back.ensures ∙ ap (λ m. c.args.most - (m - c.args.numbers.now.post)) c.max-context.ensures in
    let front : c.saturating_sub-front.result ≡ c.args.most - (max c.args.numbers.now.pre c.args.numbers.now.post - c.args.numbers.now.pre) = c.saturating_sub-front.ensures ∙ ap (λ m. c.args.most - (m - c.args.numbers.now.pre)) c.max-context.ensures in
    sym (pattern-search c.new-pattern.result c.args.numbers.now c.args.text.now c.args.side c.args.hunk.now c.args.loose lines k c.new-pattern.ensures.text c.new-pattern.ensures.hunk c.new-pattern.ensures.side c.new-pattern.ensures.loose)
    ∙ hopeless c.new-pattern.result c.args.numbers.now c.in-Some.line.now lines c.args.most k c.in-Some.ensures
    (rw (c.new-pattern.ensures.side, c.new-pattern.ensures.hunk) c.requires.counted)
    (c.new-pattern.ensures.same_last ∙ ap (λ m. taken_count c.new-pattern.result.side c.new-pattern.result.hunk.now.body.items - m) back)
    (omega (arith, front, c.middle_of-middle.ensures, c.new-pattern.ensures.front))
    none le

pub returns-in_err-found-in-Some-clause-value : goal.returns-in_err-found-in-Some-clause-value
returns-in_err-found-in-Some-clause-value g c = IfOk-from_err c.from_residual.result _ c.from_residual.ensures.0

pub returns-in_err-found-in-Some-clause-keeps : goal.returns-in_err-found-in-Some-clause-keeps
returns-in_err-found-in-Some-clause-keeps g c = c.in_err-found-in-Some.ensures.keeps

pub new-pattern-requires : goal.new-pattern-requires
new-pattern-requires g c = c.requires.lawful

pub first_line-requires : goal.first_line-requires
first_line-requires g c = c.new-pattern.ensures.is
