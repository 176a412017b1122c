use Rattle.std.proofs.Common.{◌<◌, ◌∙◌, ◌++◌, ℕ, ap, arith, refl, subst, sym}
use Rattle.hunk_core.specs.PlainHunk.{hunk_of}
use Rattle.hunk_core.specs.Turned.{IsLawful}
use Rattle.hunk_core.specs.declared.Hunk.{Hunk}
use Rattle.patch_filters.proofs.Hits.{all-at}
use Rattle.patch_filters.proofs.HunkTexts.{hunks-all, hunks-more}
use Rattle.patch_filters.specs.Told.{is_set, numbered_if}
use Rattle.patch_filters.proofs.numbering.put_numbered_hunks.Goals as goal

pub loop-place-init : goal.loop-place-init
loop-place-init c = record { gone_low = omega arith; come_low = omega arith; so_far = refl }

pub overflow_cast-place : goal.overflow_cast-place
overflow_cast-place c = omega (arith, c.loop-place-test.true, c.requires.lawful.count)

pub is_kept-is_kept-requires-clause-row : goal.is_kept-is_kept-requires-clause-row
is_kept-is_kept-requires-clause-row c = c.requires.row

pub is_kept-is_kept-requires-clause-hunk : goal.is_kept-is_kept-requires-clause-hunk
is_kept-is_kept-requires-clause-hunk c = subst (λ (n : ℕ). c.loop-place.place < n) (sym c.requires.hunks) c.loop-place-test.true

pub put_numbered_if-requires-clause-lawful : goal.put_numbered_if-requires-clause-lawful
put_numbered_if-requires-clause-lawful c =
    rw c.text.ensures (all-at (λ (h : Hunk). IsLawful c.args.row.now.set.now.text h) c.args.hunks.now c.loop-place.place c.index-hunks-place.result c.requires.lawful.lawful c.loop-place-test.true c.index-hunks-place.is)

pub put_numbered_if-requires-clause-gone : goal.put_numbered_if-requires-clause-gone
put_numbered_if-requires-clause-gone c = omega (arith, c.loop-place.invariant.gone_low, c.requires.lawful.few)

pub passed_by-passed-requires-clause-few : goal.passed_by-passed-requires-clause-few
passed_by-passed-requires-clause-few c =
    (all-at (λ (h : Hunk). IsLawful c.args.row.now.set.now.text h) c.args.hunks.now c.loop-place.place c.index-hunks-place.result c.requires.lawful.lawful c.loop-place-test.true c.index-hunks-place.is).few

pub passed_by-passed-requires-clause-gone : goal.passed_by-passed-requires-clause-gone
passed_by-passed-requires-clause-gone c = omega (arith, c.loop-place.invariant.gone_low, c.requires.lawful.few)

pub passed_by-passed-requires-clause-come : goal.passed_by-passed-requires-clause-come
passed_by-passed-requires-clause-come c = omega (arith, c.loop-place.invariant.come_low, c.requires.lawful.few)

pub loop-place-preserved : goal.loop-place-preserved
loop-place-preserved c =
    let r = c.args.row.now in
    let text = r.set.now.text in
    let p = c.loop-place.passed in
    let q = c.passed_by-passed.result in
    let h = c.index-hunks-place.result in
    hunks-more text c.args.side (is_set r.flags.now) c.args.hunks.now c.args.out.now.items c.loop-place.out.items c.put_numbered_if.new.out.items p.later q.later p.gone q.gone p.come q.come c.loop-place.place h c.is_kept-is_kept.result
    c.loop-place-test.true c.index-hunks-place.is c.loop-place.invariant c.is_kept-is_kept.ensures
    (c.in_ok-put_numbered_if.ensures ∙ ap (λ t. c.loop-place.out.items ++ numbered_if c.args.side c.is_kept-is_kept.result p.later p.gone p.come (hunk_of t h)) c.text.ensures)
    c.passed_by-passed.ensures.later (c.passed_by-passed.ensures.gone text) (c.passed_by-passed.ensures.come text)

pub returns : goal.returns
returns c =
    let r = c.args.row.now in
    let p = c.loop-place.passed in
    hunks-all r.set.now.text c.args.side (is_set r.flags.now) c.args.hunks.now c.args.out.now.items c.loop-place.out.items p.later p.gone p.come c.loop-place.place (omega (arith, c.loop-place-test.false)) c.loop-place.invariant
