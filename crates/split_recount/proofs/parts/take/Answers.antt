use Rattle.std.proofs.Common.{◌≡◌, get_or, refl, sym, ap, ◌∙◌, ◌<◌, length, subst}
use Rattle.std.proofs.lemmas.Result.{IfOk-from_err}
use Rattle.std.proofs.lemmas.Option.{get_or_from_slice_get}
use Rattle.split_recount.specs.Parts.{row_of}
use Rattle.split_recount.proofs.Cutting.{goes-cut, goes-in}
use Rattle.split_recount.proofs.Bounds.{place-fits}
use Rattle.split_recount.proofs.parts.take.Goals as goal

pub returns-then-begins : goal.returns-then-begins
returns-then-begins c = λ p is.
    let v = c.args.set.now in
    let q = c.index-patches-patch.result in
    let at : (get_or c.patches.result.now c.args.patch q).span.start ≡ p.span.start =
    ap (λ l. (get_or l c.args.patch q).span.start) c.patches.ensures.patches ∙ ap (λ x. x.span.start) (get_or_from_slice_get v.patches c.args.patch p q is) in
    goes-cut c.args.every (row_of v.text p) c.args.part c.args.parts.now.items c.in_ok-next.next c.push.new.self.items c.plain_name-name.result.now _
    (c.plain_name-name.ensures p is) at (sym c.begins.ensures ∙ c.if-begins.true) c.in_ok-push.ensures.items c.in_ok-next.ensures.start c.in_ok-next.ensures.names

pub returns-in-Ok : goal.returns-in-Ok
returns-in-Ok c = λ p is.
    let v = c.args.set.now in
    goes-in c.args.every (row_of v.text p) c.args.part c.args.parts.now.items _ c.plain_name-name.result
    (c.plain_name-name.ensures p is) (sym c.begins.ensures ∙ c.if-begins.false) refl c.in-Ok.ensures.updates

pub bounds-patches-patch-then-begins : goal.bounds-patches-patch-then-begins
bounds-patches-patch-then-begins c = subst (λ l. c.args.patch < length l) (sym c.patches.ensures.patches) c.requires

pub bounds-patches-patch : goal.bounds-patches-patch
bounds-patches-patch c = subst (λ l. c.args.patch < length l) (sym c.patches.ensures.patches) c.requires

pub offset_bounds-patches-patch : goal.offset_bounds-patches-patch
offset_bounds-patches-patch c = place-fits c.args.patch c.ranges.patch.fits

pub returns-in_err-next : goal.returns-in_err-next
returns-in_err-next c = IfOk-from_err c.from_residual-in_err-next.result _ c.from_residual-in_err-next.ensures.0

pub returns-in_err-push : goal.returns-in_err-push
returns-in_err-push c = IfOk-from_err c.from_residual.result _ c.from_residual.ensures.0

pub returns : goal.returns
returns c = tt
