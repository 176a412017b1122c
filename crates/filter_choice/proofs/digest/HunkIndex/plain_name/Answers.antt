use Rattle.std.proofs.Common.{◌≡◌, ◌<◌, length, sym, subst, ◌∙◌, arith}
use Rattle.std.specs.Prelude.{slice_get}
use Rattle.std.specs.Option.{ForSome}
use Rattle.std.proofs.lemmas.Option.{same_Some}
use Rattle.line_list.proofs.Elements.{found}
use Rattle.read_file_patch.specs.declared.FilePatch.{FilePatch}
use Rattle.read_file_patch.specs.PlainPatch.{header_of}
use Rattle.patch_set.specs.PlainName.{plain_name}
use Rattle.filter_choice.specs.Digested.{DigestView}
use Rattle.filter_choice.proofs.digest.HunkIndex.plain_name.Goals as goal

pub index-requires : goal.index-requires
index-requires c =
    let lt = subst (λ (v : DigestView). c.args.patch < length v.patches) (sym c.self.view_is) c.requires in
    omega (arith, lt)

pub returns : goal.returns
returns c =
    let s = c.self.inside in
    let own = c.index.result.now in
    let lt = subst (λ (v : DigestView). c.args.patch < length v.patches) (sym c.self.view_is) c.requires in
    let there = found s.patches.items c.args.patch own lt c.index.ensures in
    subst (λ (v : DigestView). ForSome (slice_get v.patches c.args.patch) (λ p. c.plain_name.result.now ≡ plain_name (header_of v.text p.header))) c.self.view_is
    (λ p is. subst (λ (q : FilePatch). c.plain_name.result.now ≡ plain_name (header_of s.text.items q.header)) (same_Some _ _ (sym there ∙ is))
    (subst (λ t. c.plain_name.result.now ≡ plain_name (header_of t own.header)) c.deref.ensures.value c.plain_name.ensures))
