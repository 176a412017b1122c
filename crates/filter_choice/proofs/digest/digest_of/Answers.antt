use Rattle.std.proofs.Common.{◌≡◌, ◌⊎◌, ◌<◌, ◌^◌, List, None, Some, Ok, length, map, subst, sym}
use Rattle.read_file_patch.specs.declared.FilePatch.{FilePatch}
use Rattle.read_file_patch.specs.PlainPatch.{patch_of}
use Rattle.patch_options.specs.PlainJob.{plain_options}
use Rattle.patch_set.specs.declared.fault.SetFault.TheVariants as faults
use Rattle.patch_set.specs.Refusals.{refusal_of}
use Rattle.filter_choice.proofs.digest.digest_of.Goals as goal

pub returns-in-Err-clause-refused : goal.returns-in-Err-clause-refused
returns-in-Err-clause-refused c =
    let o = plain_options c.args.options.now in
    subst (λ (ps : List FilePatch). (c.in-Err.fault ≡ faults.Memory) ⊎ (refusal_of o c.args.text.items (Ok (map (patch_of c.args.text.items) ps)) ≡ Some c.in-Err.fault)) c.deref-2.ensures.value
    (subst (λ t. (c.in-Err.fault ≡ faults.Memory) ⊎ (refusal_of o t (Ok (map (patch_of t) c.deref-2.result.now)) ≡ Some c.in-Err.fault)) c.deref.ensures.value c.in-Err.ensures.refused)

pub returns-in-Ok-clause-refused : goal.returns-in-Ok-clause-refused
returns-in-Ok-clause-refused c =
    let o = plain_options c.args.options.now in
    subst (λ (ps : List FilePatch). refusal_of o c.args.text.items (Ok (map (patch_of c.args.text.items) ps)) ≡ None) c.deref-2.ensures.value
    (subst (λ t. refusal_of o t (Ok (map (patch_of t) c.deref-2.result.now)) ≡ None) c.deref.ensures.value c.in-Ok.ensures.refused)

pub refuse-requires-clause-count : goal.refuse-requires-clause-count
refuse-requires-clause-count c = subst (λ (ps : List FilePatch). length ps < 2 ^ 32) (sym c.deref-2.ensures.value) c.requires.count
