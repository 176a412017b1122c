use Rattle.std.proofs.Common.{ℕ, List, sym, ap, ◌∙◌, subst, arith}
use Rattle.std.proofs.lemmas.Option.{get_or_from_slice_get, same_Some}
use Rattle.hunk_core.specs.declared.Verdict.{Verdict}
use Rattle.outside.specs.SinkView.{Writes}
use Rattle.outside.proofs.Writing.{writes_is}
use Rattle.read_file_patch.specs.declared.FilePatch.{FilePatch}
use Rattle.read_file_patch.specs.PlainPatch.{IsLawfulChange, change_of}
use Rattle.patch_set.specs.SetView.{verdicts_in}
use Rattle.patch_set.proofs.Verdicts.{verdicts-within}
use Rattle.reject_text.specs.Rejects.{hunks_in, reject_text}
use Rattle.reject_text.proofs.set.put_rejects.Goals as goal

pub verdicts_in-verdicts-requires-clause-within : goal.verdicts_in-verdicts-requires-clause-within
verdicts_in-verdicts-requires-clause-within g c =
    omega (arith, c.requires.held, verdicts-within c.args.set.now c.args.patch c.patch_at-patch.result.now c.patch_at-patch.ensures.whole c.patch_at-patch.ensures.is)

pub put_reject-requires-clause-lawful : goal.put_reject-requires-clause-lawful
put_reject-requires-clause-lawful g c =
    let p = c.patch_at-patch.result.now in
    let lawful = c.patch_at-patch.ensures.whole.lawful c.args.patch p c.requires.within in
    rw c.text.ensures
    (subst (λ x. IsLawfulChange c.args.set.now.text x.change) (get_or_from_slice_get c.args.set.now.patches c.args.patch p p c.patch_at-patch.ensures.is) lawful.change)

pub verdicts_in-verdicts-requires-clause-count : goal.verdicts_in-verdicts-requires-clause-count
verdicts_in-verdicts-requires-clause-count g c =
    omega (arith, verdicts-within c.args.set.now c.args.patch c.patch_at-patch.result.now c.patch_at-patch.ensures.whole c.patch_at-patch.ensures.is, c.patch_at-patch.ensures.whole.hunks)

pub returns-clause-writes : goal.returns-clause-writes
returns-clause-writes g c = λ p is.
    let v = c.args.set.now in
    let q = c.patch_at-patch.result.now in
    let said = λ (t : List ℕ) (vs : List Verdict) (x : FilePatch). reject_text (hunks_in (change_of t x.change)) vs c.args.side c.args.name.now c.args.form in
    subst (λ (x : FilePatch). Writes (g.O.Sink.view c.args.out.now) (g.O.Sink.view c.put_reject.new.out) c.put_reject.result (said v.text (verdicts_in v x) x)) (same_Some _ _ (sym c.patch_at-patch.ensures.is ∙ is))
    (writes_is c.put_reject.result (said v.text (verdicts_in v q) q) c.put_reject.ensures.writes
    (ap (λ (t : List ℕ). said t c.verdicts_in-verdicts.result.now q) c.text.ensures ∙ ap (λ (vs : List Verdict). said v.text vs q) c.verdicts_in-verdicts.ensures.are))
