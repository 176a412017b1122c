use Rattle.std.proofs.Common.{◌≡◌, get_or, sym, ap, subst, ◌∙◌}
use Rattle.std.proofs.lemmas.Option.{get_or_from_slice_get}
use Rattle.line_list.proofs.Elements.{found}
use Rattle.outside.specs.Puts.{Puts}
use Rattle.read_file_patch.specs.PlainPatch.{header_of}
use Rattle.patch_set.specs.PlainName.{plain_name}
use Rattle.flip_patch.specs.HeaderText.{header_text}
use Rattle.flip_patch.proofs.headers.put_header_lines.Goals as goal

pub put_lines-requires : goal.put_lines-requires
put_lines-requires g c =
    let v = c.args.set.now in
    let p = c.index-patches-patch.result in
    let is = found v.patches c.args.patch p c.requires (subst (λ l. p ≡ get_or l c.args.patch p) c.patches.ensures.patches c.index-patches-patch.is) in
    c.plain_name.ensures p is ∙ ap (λ t. plain_name (header_of t p.header)) (sym c.text.ensures)
    ∙ ap (λ x. plain_name (header_of c.text.result.now x.header)) c.index-patches-patch.is

pub returns : goal.returns
returns g c = λ p is.
    let v = c.args.set.now in
    let q = c.index-patches-patch.result in
    let there = get_or c.patches.result.now c.args.patch q in
    let same : there.header ≡ p.header =
    ap (λ l. (get_or l c.args.patch q).header) c.patches.ensures.patches ∙ ap (λ x. x.header) (get_or_from_slice_get v.patches c.args.patch p q is) in
    subst (λ h. Puts g.O.Sink.view g.O.Sink.same_rest c.args.out.now c.put_lines.new.out c.put_lines.result (header_text v.text c.args.form c.args.side h)) same
    (subst (λ t. Puts g.O.Sink.view g.O.Sink.same_rest c.args.out.now c.put_lines.new.out c.put_lines.result (header_text t c.args.form c.args.side there.header)) c.text.ensures c.put_lines.ensures)
