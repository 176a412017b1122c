use Rattle.std.proofs.Common.{◌≡◌, ◌<◌, ◌||◌, false, get_or, sym, ap, ◌∙◌, arith, subst, ℕ}
use Rattle.std.specs.List.{list_any}
use Rattle.std.proofs.lemmas.List.{take_all}
use Rattle.std.proofs.lemmas.List.Folds.{list_any_more}
use Rattle.std.proofs.lemmas.Option.{same_Some}
use Rattle.read_file_patch.specs.PlainPatch.{change_of, hunk_count, patch_of, row_count}
use Rattle.read_file_patch.specs.declared.FilePatch.{FilePatch}
use Rattle.cli_tool_words.specs.PlainJobs.{plain_filter_job}
use Rattle.format_convert.specs.Taken.{flags}
use Rattle.format_convert.proofs.Rows.{any-at, flag-at, flags-long, few-rows}
use Rattle.patch_set.proofs.Named.{rows-counted}
use Rattle.format_convert.proofs.kept.has_kept.Goals as goal

pub returns-then-keeps : goal.returns-then-keeps
returns-then-keeps c = λ p is.
    let j = plain_filter_job c.args.job.now in
    let n = c.args.patch in
    let plain = patch_of c.args.set.now.text p in
    let same = same_Some _ p (sym c.patch_at.ensures.is ∙ is) in
    let count : hunk_count plain.change ≡ c.hunks-hunk-end.result = ap (λ (x : FilePatch). hunk_count (change_of c.args.set.now.text x.change)) (sym same) ∙ sym (c.hunks-hunk-end.ensures c.args.set.now.text) in
    let lt : c.loop-hunk.hunk < hunk_count plain.change = omega (arith, count, c.loop-hunk-test.true) in
    sym (any-at (flags j n plain) c.loop-hunk.hunk (omega (arith, lt, flags-long j n plain)) (flag-at j n plain c.loop-hunk.hunk false lt ∙ sym (c.keeps.ensures p is) ∙ c.if-keeps.true))

pub loop-hunk-preserved : goal.loop-hunk-preserved
loop-hunk-preserved c = λ p is.
    let j = plain_filter_job c.args.job.now in
    let n = c.args.patch in
    let plain = patch_of c.args.set.now.text p in
    let i = c.loop-hunk.hunk in
    let same = same_Some _ p (sym c.patch_at.ensures.is ∙ is) in
    let count : hunk_count plain.change ≡ c.hunks-hunk-end.result = ap (λ (x : FilePatch). hunk_count (change_of c.args.set.now.text x.change)) (sym same) ∙ sym (c.hunks-hunk-end.ensures c.args.set.now.text) in
    let lt : c.loop-hunk.hunk < hunk_count plain.change = omega (arith, count, c.loop-hunk-test.true) in
    list_any_more (λ is. is) (flags j n plain) i false (omega (arith, lt, flags-long j n plain))
    ∙ ap (λ b. b || get_or (flags j n plain) i false) (c.loop-hunk.invariant p is)
    ∙ flag-at j n plain i false lt ∙ sym (c.keeps.ensures p is) ∙ c.if-keeps.false

pub returns : goal.returns
returns c = λ p is.
    let j = plain_filter_job c.args.job.now in
    let n = c.args.patch in
    let plain = patch_of c.args.set.now.text p in
    let same = same_Some _ p (sym c.patch_at.ensures.is ∙ is) in
    let count : hunk_count plain.change ≡ c.hunks-hunk-end.result = ap (λ (x : FilePatch). hunk_count (change_of c.args.set.now.text x.change)) (sym same) ∙ sym (c.hunks-hunk-end.ensures c.args.set.now.text) in
    sym (ap (list_any (λ is. is)) (sym (take_all c.loop-hunk.hunk (flags j n plain) (omega (arith, count, flags-long j n plain, c.loop-hunk-test.false, c.loop-hunk.auto.hunk-end)))) ∙ c.loop-hunk.invariant p is)

pub keeps-requires-clause-hunk : goal.keeps-requires-clause-hunk
keeps-requires-clause-hunk c = λ x at.
    subst (λ (p : FilePatch). c.loop-hunk.hunk < row_count p.change) (same_Some c.patch_at.result.now x (sym c.patch_at.ensures.is ∙ at))
    (subst (λ (n : ℕ). c.loop-hunk.hunk < n) (c.hunks-hunk-end.ensures c.args.set.now.text ∙ rows-counted c.args.set.now.text c.patch_at.result.now.change) c.loop-hunk-test.true)

pub hunks-hunk-end-requires : goal.hunks-hunk-end-requires
hunks-hunk-end-requires c = few-rows c.args.set.now.text c.patch_at.result.now.change c.patch_at.ensures.lawful.change
