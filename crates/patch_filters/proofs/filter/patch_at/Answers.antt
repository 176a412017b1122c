use Rattle.std.proofs.Common.{◌≡◌, get_or, subst}
use Rattle.line_list.proofs.Elements.{found}
use Rattle.patch_filters.proofs.Digesting.{digest-at}
use Rattle.patch_filters.proofs.filter.patch_at.Goals as goal

pub returns-clause-is : goal.returns-clause-is
returns-clause-is c =
    let v = c.args.digest.now in
    let p = c.index-patches-patch.result in
    found v.patches c.args.patch p c.requires (subst (λ l. p ≡ get_or l c.args.patch p) c.patches.ensures.patches c.index-patches-patch.is)

pub returns-clause-digest : goal.returns-clause-digest
returns-clause-digest c = λ own also.
    let v = c.args.digest.now in
    let p = c.index-patches-patch.result in
    digest-at v.text v.patches v.olds c.args.patch p own c.patches.ensures.are
    (found v.patches c.args.patch p c.requires (subst (λ l. p ≡ get_or l c.args.patch p) c.patches.ensures.patches c.index-patches-patch.is)) also
