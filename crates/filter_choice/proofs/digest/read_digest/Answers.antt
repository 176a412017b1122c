use Rattle.std.proofs.Common.{◌≡◌, ◌∙◌, Ok, subst, ap, map, length, arith}
use Rattle.std.proofs.lemmas.Result.{IfOk-weaker}
use Rattle.std.proofs.lemmas.Bool.{le-ltb}
use Rattle.read_file_patch.specs.PlainPatch.{patch_of}
use Rattle.patch_options.specs.PlainJob.{plain_options}
use Rattle.read_patch_text.specs.Digests.{AreDigests, digests_of, plain_digests}
use Rattle.read_patch_text.specs.Regions.{region_of, regions_of}
use Rattle.patch_set.specs.Asked.{ways_of}
use Rattle.patch_set.specs.SetView.{Meets}
use Rattle.patch_set.proofs.Completing.{completed-length, long-refusal}
use Rattle.filter_choice.proofs.Outlines.{digest-refusal, is-digest, memory-of}
use Rattle.filter_choice.proofs.digest.read_digest.Goals as goal

pub read_digests-requires : goal.read_digests-requires
read_digests-requires c = omega (arith, completed-length c.args.text.items, ap length c.deref.ensures.value, ap length c.in-Ok.ensures.whole, c.in-Ok.ensures.short)

pub returns : goal.returns
returns c = record {
  digest = (
      let text = c.in-Ok.text.items in
      let o = plain_options c.args.options.now in
      let d = c.in_ok-digests.digests in
      let ps = map (patch_of text) d.patches.items in
      let read : digests_of (ways_of o) text ≡ Ok (plain_digests text d) =
      subst (λ w. digests_of w text ≡ Ok (plain_digests text d)) c.ways_of.ensures
      (subst (λ t. digests_of c.ways_of.result t ≡ Ok (plain_digests t d)) c.deref.ensures.value c.in_ok-digests.ensures.exact) in
      let lie : map region_of d.patches.items ≡ regions_of (ways_of o) text =
      subst (λ w. map region_of d.patches.items ≡ regions_of w text) c.ways_of.ensures
      (subst (λ t. map region_of d.patches.items ≡ regions_of c.ways_of.result t) c.deref.ensures.value c.in_ok-digests.ensures.regions) in
      is-digest o c.args.text.items text ps (map (λ os. os.items) d.olds.items) c.digest_of.result c.in-Ok.ensures.whole read c.digest_of.ensures.text c.digest_of.ensures.plain c.digest_of.ensures.olds
      (IfOk-weaker c.digest_of.result _ _ (λ v same. same ∙ lie) c.digest_of.ensures.regions) c.digest_of.ensures.are);
  refused = (
      let text = c.in-Ok.text.items in
      let o = plain_options c.args.options.now in
      let d = c.in_ok-digests.digests in
      let ps = map (patch_of text) d.patches.items in
      let read : digests_of (ways_of o) text ≡ Ok (plain_digests text d) =
      subst (λ w. digests_of w text ≡ Ok (plain_digests text d)) c.ways_of.ensures
      (subst (λ t. digests_of c.ways_of.result t ≡ Ok (plain_digests t d)) c.deref.ensures.value c.in_ok-digests.ensures.exact) in
      subst (λ r. Meets r c.digest_of.result)
      (digest-refusal o c.args.text.items text ps (map (λ os. os.items) d.olds.items) (le-ltb 268435456 (length c.args.text.items) c.in-Ok.ensures.short) c.in-Ok.ensures.whole read) c.digest_of.ensures.refused);
  memory = λ is. c.in-Ok.ensures.short;
}

pub returns-in-Err-clause-refused : goal.returns-in-Err-clause-refused
returns-in-Err-clause-refused c = long-refusal (plain_options c.args.options.now) c.args.text.items c.in-Err.fault c.in-Err.ensures.refused

pub digest_of-requires-clause-are : goal.digest_of-requires-clause-are
digest_of-requires-clause-are c = subst (λ t. AreDigests t c.in_ok-digests.digests.patches.items (map (λ os. os.items) c.in_ok-digests.digests.olds.items)) c.deref.ensures.value c.in_ok-digests.ensures.are

pub digest_of-requires-clause-count : goal.digest_of-requires-clause-count
digest_of-requires-clause-count c = c.in_ok-digests.ensures.count

pub returns-in-Err-clause-memory : goal.returns-in-Err-clause-memory
returns-in-Err-clause-memory c = memory-of c.in-Err.fault c.in-Err.ensures.memory
