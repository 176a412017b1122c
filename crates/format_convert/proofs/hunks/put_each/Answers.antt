use Rattle.std.proofs.Common.{◌+◌, ◌<◌, ◌≤◌, ℕ, [], cond, get_or, length, sym, subst}
use Rattle.std.proofs.lemmas.Result.{err_from_is_err_and}
use Rattle.hunk_core.specs.declared.Hunk.{Hunk}
use Rattle.hunk_core.specs.PlainHunk.{hunk_of, hunks_of}
use Rattle.hunk_core.specs.Turned.{IsLawful}
use Rattle.read_file_patch.specs.PlainPatch.{patch_of}
use Rattle.filter_choice.specs.Kept.{keeps}
use Rattle.cli_tool_words.specs.PlainJobs.{plain_filter_job}
use Rattle.format_convert.specs.Taken.{flags}
use Rattle.format_convert.proofs.Parts.{written-all, written-more, written-none, written-stop}
use Rattle.std.specs.List.{zip}
use Rattle.format_convert.specs.Converted.{pieces, told}
use Rattle.format_convert.proofs.RowLemmas.{kept_from, last-hunk, next-hunk, rows-of, number-fits, offset-fits}
use Rattle.format_convert.proofs.hunks.put_each.Goals as goal

pub loop-number-init : goal.loop-number-init
loop-number-init g c = λ x at. written-none g.met.O.Sink.rest_none c.args.out.now _

pub overflow_cast-number : goal.overflow_cast-number
overflow_cast-number g c = number-fits c.loop-number.number _ c.loop-number-test.true c.requires.lawful.count

pub put_if_kept-requires-clause-number : goal.put_if_kept-requires-clause-number
put_if_kept-requires-clause-number g c = λ x at. subst (λ (n : ℕ). c.loop-number.number < n) (sym (rows-of x.change c.args.hunks.now (c.requires.hunks x at))) c.loop-number-test.true

pub put_if_kept-requires-clause-lawful : goal.put_if_kept-requires-clause-lawful
put_if_kept-requires-clause-lawful g c =
    let lt : c.loop-number.number < length c.args.hunks.now = c.loop-number-test.true in
    subst (λ (h : Hunk). IsLawful c.args.set.now.text h) (sym c.index-hunks-number.is) (c.requires.lawful.lawful c.loop-number.number c.index-hunks-number.result lt)

pub loop-number-preserved : goal.loop-number-preserved
loop-number-preserved g c = λ x at.
    let j = plain_filter_job c.args.job.now in
    let n = c.args.patch in
    let text = c.args.set.now.text in
    let own = c.args.hunks.now in
    let i = c.loop-number.number in
    let h = c.index-hunks-number.result in
    let lt : c.loop-number.number < length c.args.hunks.now = c.loop-number-test.true in
    written-more g.met.O.Sink.rest_both (c.loop-number.invariant x at) (cond (keeps j n (patch_of text x) i) (told c.args.form x.header.form (get_or (pieces text x) i [], hunk_of text h)) [])
    (kept_from (told c.args.form x.header.form) (flags j n (patch_of text x)) (zip (pieces text x) (hunks_of text own)) (i + 1))
    (next-hunk j n text x own (c.requires.hunks x at) (c.requires.spans x at) (told c.args.form x.header.form) i h lt c.index-hunks-number.is)
    c.in_ok-put_if_kept.field-0 (c.in_ok-put_if_kept.ensures x at)

pub returns-in_err-put_if_kept : goal.returns-in_err-put_if_kept
returns-in_err-put_if_kept g c = λ x at.
    let p = err_from_is_err_and c.from_residual.result c.from_residual.ensures.1 in
    let j = plain_filter_job c.args.job.now in
    let n = c.args.patch in
    let text = c.args.set.now.text in
    let own = c.args.hunks.now in
    let i = c.loop-number.number in
    let h = c.index-hunks-number.result in
    let lt : c.loop-number.number < length c.args.hunks.now = c.loop-number-test.true in
    rw p.1 (written-stop g.met.O.Sink.rest_both (c.loop-number.invariant x at) (cond (keeps j n (patch_of text x) i) (told c.args.form x.header.form (get_or (pieces text x) i [], hunk_of text h)) [])
    (kept_from (told c.args.form x.header.form) (flags j n (patch_of text x)) (zip (pieces text x) (hunks_of text own)) (i + 1))
    (next-hunk j n text x own (c.requires.hunks x at) (c.requires.spans x at) (told c.args.form x.header.form) i h lt c.index-hunks-number.is)
    c.in_err-put_if_kept.field-0.0 p.0 (c.in_err-put_if_kept.ensures x at))

pub returns : goal.returns
returns g c = λ x at.
    let le : length c.args.hunks.now ≤ c.loop-number.number = c.loop-number-test.false in
    written-all _ (c.loop-number.invariant x at) (last-hunk (plain_filter_job c.args.job.now) c.args.patch c.args.set.now.text x c.args.hunks.now (c.requires.hunks x at) (c.requires.spans x at) (told c.args.form x.header.form) c.loop-number.number le)

pub put_if_kept-requires-clause-within : goal.put_if_kept-requires-clause-within
put_if_kept-requires-clause-within g c = c.requires.within

pub bounds-hunks-number : goal.bounds-hunks-number
bounds-hunks-number g c = c.loop-number-test.true

pub offset_bounds-hunks-number : goal.offset_bounds-hunks-number
offset_bounds-hunks-number g c = offset-fits c.loop-number.number _ c.loop-number-test.true c.requires.lawful.count
