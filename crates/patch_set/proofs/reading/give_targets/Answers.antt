use Rattle.std.proofs.Common.{◌≡◌, ◌⊎◌, Some, Ok, inr, map, subst, sym}
use Rattle.read_file_patch.specs.PlainPatch.{patch_of}
use Rattle.patch_options.specs.PlainJob.{plain_options}
use Rattle.patch_set.specs.declared.fault.SetFault.TheVariants as faults
use Rattle.patch_set.specs.Refusals.{garbage, out_many, ed_reverse, reserved, refusal_of}
use Rattle.patch_set.specs.SetView.{Meets}
use Rattle.patch_set.proofs.Found.{early-refusal, late-refusal}
use Rattle.patch_set.proofs.reading.give_targets.Goals as goal

pub returns-in-Some-clause-refused : goal.returns-in-Some-clause-refused
returns-in-Some-clause-refused c =
    let o = plain_options c.args.options.now in
    let text = c.args.text.now in
    let ps = map (patch_of text) c.deref.result.now in
    subst (λ qs. (c.in-Some.fault ≡ faults.Memory) ⊎ (refusal_of o text (Ok (map (patch_of text) qs)) ≡ Some c.in-Some.fault)) c.deref.ensures.value
    (inr (early-refusal (garbage text ps) (out_many o ps) (ed_reverse o ps) (reserved o ps) c.in-Some.fault c.in-Some.ensures))

pub returns-in-None-clause-refused : goal.returns-in-None-clause-refused
returns-in-None-clause-refused c =
    let o = plain_options c.args.options.now in
    let text = c.args.text.now in
    let ps = map (patch_of text) c.deref.result.now in
    let same = late-refusal (garbage text ps) (out_many o ps) (ed_reverse o ps) (reserved o ps) c.in-None.ensures in
    subst (λ qs. Meets (refusal_of o text (Ok (map (patch_of text) qs))) c.give_lasting.result) c.deref.ensures.value
    (subst (λ r. Meets r c.give_lasting.result) (sym same)
    (subst (λ qs. Meets (reserved o (map (patch_of text) qs)) c.give_lasting.result) (sym c.deref.ensures.value) c.give_lasting.ensures.refused))
