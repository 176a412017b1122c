use Rattle.std.proofs.Common.{◌≡◌, Ok, subst, ap, map, length, arith}
use Rattle.std.proofs.lemmas.Bool.{le-ltb}
use Rattle.std.specs.Prelude.{All}
use Rattle.read_file_patch.specs.Absent.{IsLawfulPatch}
use Rattle.read_file_patch.specs.PlainPatch.{patch_of}
use Rattle.patch_options.specs.PlainJob.{plain_options}
use Rattle.read_patch_text.specs.Outlines.{outlines_of}
use Rattle.patch_set.specs.Asked.{ways_of}
use Rattle.patch_set.specs.SetView.{Meets}
use Rattle.patch_set.proofs.Completing.{completed-length, long-refusal}
use Rattle.filter_choice.proofs.Outlines.{is-outline, memory-of, outline-refusal}
use Rattle.filter_choice.proofs.outline.read_outline.Goals as goal

pub read_outlines-requires : goal.read_outlines-requires
read_outlines-requires c = omega (arith, completed-length c.args.text.items, ap length c.deref.ensures.value, ap length c.in-Ok.ensures.whole, c.in-Ok.ensures.short)

pub returns : goal.returns
returns c = record {
  outline = (
      let text = c.in-Ok.text.items in
      let o = plain_options c.args.options.now in
      let ps = map (patch_of text) c.in_ok-patches.patches.items in
      let read : outlines_of (ways_of o) text ≡ Ok ps =
      subst (λ w. outlines_of w text ≡ Ok ps) c.ways_of.ensures
      (subst (λ t. outlines_of c.ways_of.result t ≡ Ok (map (patch_of t) c.in_ok-patches.patches.items)) c.deref.ensures.value c.in_ok-patches.ensures.exact) in
      is-outline o c.args.text.items text ps c.outline_of.result c.in-Ok.ensures.whole read c.outline_of.ensures.text c.outline_of.ensures.plain);
  refused = (
      let text = c.in-Ok.text.items in
      let o = plain_options c.args.options.now in
      let ps = map (patch_of text) c.in_ok-patches.patches.items in
      let read : outlines_of (ways_of o) text ≡ Ok ps =
      subst (λ w. outlines_of w text ≡ Ok ps) c.ways_of.ensures
      (subst (λ t. outlines_of c.ways_of.result t ≡ Ok (map (patch_of t) c.in_ok-patches.patches.items)) c.deref.ensures.value c.in_ok-patches.ensures.exact) in
      subst (λ r. Meets r c.outline_of.result)
      (outline-refusal o c.args.text.items text ps (le-ltb 268435456 (length c.args.text.items) c.in-Ok.ensures.short) c.in-Ok.ensures.whole read) c.outline_of.ensures.refused);
  memory = λ is. c.in-Ok.ensures.short;
}

pub returns-in-Err-clause-refused : goal.returns-in-Err-clause-refused
returns-in-Err-clause-refused c = long-refusal (plain_options c.args.options.now) c.args.text.items c.in-Err.fault c.in-Err.ensures.refused

pub outline_of-requires-clause-lawful : goal.outline_of-requires-clause-lawful
outline_of-requires-clause-lawful c = subst (λ t. All (IsLawfulPatch t) c.in_ok-patches.patches.items) c.deref.ensures.value c.in_ok-patches.ensures.lawful

pub outline_of-requires-clause-count : goal.outline_of-requires-clause-count
outline_of-requires-clause-count c = c.in_ok-patches.ensures.count

pub returns-in-Err-clause-memory : goal.returns-in-Err-clause-memory
returns-in-Err-clause-memory c = memory-of c.in-Err.fault c.in-Err.ensures.memory
