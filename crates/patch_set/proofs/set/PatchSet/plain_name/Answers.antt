use Rattle.std.proofs.Common.{length, get_or, ap, ◌∙◌, arith}
use Rattle.std.proofs.lemmas.Option.{get_or_from_slice_get}
use Rattle.read_file_patch.specs.PlainPatch.{header_of}
use Rattle.patch_set.specs.PlainName.{plain_name}
use Rattle.patch_set.specs.SetView.{SetView}
use Rattle.patch_set.proofs.set.PatchSet.plain_name.Goals as goal

pub index-requires : goal.index-requires
index-requires c = omega (arith, c.requires, ap (λ (s : SetView). length s.patches) c.self.view_is)

pub returns : goal.returns
returns c = λ p is.
    let text = c.deref.ensures.value ∙ ap (λ (s : SetView). s.text) c.self.view_is in
    let one = c.index.ensures ∙ ap (λ (s : SetView). get_or s.patches c.args.patch c.index.result.now) c.self.view_is ∙ get_or_from_slice_get c.args.self.now.patches c.args.patch p c.index.result.now is in
    c.plain_name.ensures ∙ ap (λ t. plain_name (header_of t c.index.result.now.header)) text ∙ ap (λ q. plain_name (header_of c.args.self.now.text q.header)) one
