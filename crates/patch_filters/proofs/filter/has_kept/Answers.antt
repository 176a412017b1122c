use Rattle.std.proofs.Common.{◌<◌, ◌||◌, false, length, get_or, refl, sym, ap, ◌∙◌, arith}
use Rattle.std.specs.List.{list_any}
use Rattle.std.proofs.lemmas.List.{take_all}
use Rattle.std.proofs.lemmas.List.Folds.{list_any_at, list_any_more}
use Rattle.cli_tool_words.specs.PlainJobs.{plain_filter_job}
use Rattle.patch_filters.specs.Digested.{digest_kept}
use Rattle.patch_filters.proofs.Digesting.{digest-long}
use Rattle.patch_filters.proofs.filter.has_kept.Goals as goal

pub loop-hunk-init : goal.loop-hunk-init
loop-hunk-init c = refl

pub is_row_kept-requires-clause-digest : goal.is_row_kept-requires-clause-digest
is_row_kept-requires-clause-digest c = c.requires

pub loop-hunk-preserved : goal.loop-hunk-preserved
loop-hunk-preserved c =
    let j = plain_filter_job c.args.job.now in
    let p = c.args.patch.now in
    let i = c.loop-hunk.hunk in
    let flags = digest_kept j c.args.text.now p c.args.olds.now in
    let lt : i < length flags = omega (arith, c.loop-hunk-test.true, digest-long j c.args.text.now p c.args.olds.now c.requires) in
    list_any_more (λ is. is) flags i false lt ∙ ap (λ b. b || get_or flags i false) c.loop-hunk.invariant ∙ (sym c.is_row_kept.ensures ∙ c.if-is_row_kept.false)

pub returns-then-is_row_kept : goal.returns-then-is_row_kept
returns-then-is_row_kept c =
    let j = plain_filter_job c.args.job.now in
    let p = c.args.patch.now in
    let i = c.loop-hunk.hunk in
    let flags = digest_kept j c.args.text.now p c.args.olds.now in
    let lt : i < length flags = omega (arith, c.loop-hunk-test.true, digest-long j c.args.text.now p c.args.olds.now c.requires) in
    sym (list_any_at (λ is. is) flags i false lt (sym c.is_row_kept.ensures ∙ c.if-is_row_kept.true))

pub returns : goal.returns
returns c =
    let j = plain_filter_job c.args.job.now in
    let text = c.args.text.now in
    let p = c.args.patch.now in
    let olds = c.args.olds.now in
    let flags = digest_kept j text p olds in
    sym (ap (list_any (λ is. is)) (sym (take_all c.loop-hunk.hunk flags (omega (arith, digest-long j text p olds c.requires, c.loop-hunk-test.false)))) ∙ c.loop-hunk.invariant)

pub is_row_kept-requires-clause-within : goal.is_row_kept-requires-clause-within
is_row_kept-requires-clause-within c = omega (arith, c.loop-hunk-test.true)
