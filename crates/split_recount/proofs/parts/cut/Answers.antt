use Rattle.std.proofs.Common.{◌<◌, ◌≤◌, [], ◌∷◌, length, sym, subst, ap, ◌∙◌}
use Rattle.std.proofs.lemmas.Result.{IfOk-from_err}
use Rattle.std.proofs.lemmas.List.{length-map}
use Rattle.line_list.proofs.Elements.{there-is}
use Rattle.split_recount.specs.Parts.{row_of, rows_of}
use Rattle.split_recount.specs.Splitting.{AreNames}
use Rattle.split_recount.proofs.Cutting.{first-row, row-more, rows-done, row-at, parts-are, all_parts}
use Rattle.split_recount.proofs.Bounds.{patch-fits}
use Rattle.split_recount.proofs.parts.cut.Goals as goal

pub loop-patch-init : goal.loop-patch-init
loop-patch-init c =
    let v = c.args.set.now in
    let p = there-is v.patches 0 c.requires.some in
    let named = c.plain_name.ensures p.0 p.1 in
    rw c.new-parts.ensures.items (first-row c.args.every c.args.end (rows_of v) (row_of v.text p.0) c.in_ok-part.part (row-at v 0 p.0 p.1)
    c.in_ok-part.ensures.start (subst (λ n. AreNames (n ∷ []) c.in_ok-part.part.names) named c.in_ok-part.ensures.names))

pub loop-patch-preserved : goal.loop-patch-preserved
loop-patch-preserved c =
    let v = c.args.set.now in
    let i = c.loop-patch.patch in
    let lt : i < length v.patches = subst (λ l. i < length l) c.patches-patch-end.ensures.patches c.loop-patch-test.true in
    let p = there-is v.patches i lt in
    row-more c.args.every c.args.end (rows_of v) i (row_of v.text p.0) c.loop-patch.part c.in_ok-part-2.part c.loop-patch.parts.items c.take.new.parts.items (row-at v i p.0 p.1)
    c.loop-patch.invariant (c.in_ok-part-2.ensures p.0 p.1)

pub returns : goal.returns
returns c =
    let v = c.args.set.now in
    let i = c.loop-patch.patch in
    let all : length v.patches ≤ i = subst (λ l. length l ≤ i) c.patches-patch-end.ensures.patches c.loop-patch-test.false in
    rows-done c.args.every c.args.end (rows_of v) i c.loop-patch.part c.loop-patch.parts.items c.push.new.self.items (subst (λ n. n ≤ i) (sym (length-map v.patches (row_of v.text))) all)
    c.loop-patch.invariant c.in_ok-push.ensures.items
    ∙ ap (λ n. all_parts c.args.every n (rows_of v)) c.requires.end ∙ sym (parts-are c.args.every v c.requires.text)

pub plain_name-requires : goal.plain_name-requires
plain_name-requires c = c.requires.some

pub take-requires : goal.take-requires
take-requires c = subst (λ l. c.loop-patch.patch < length l) c.patches-patch-end.ensures.patches c.loop-patch-test.true

pub overflow_cast-patch : goal.overflow_cast-patch
overflow_cast-patch c = patch-fits c.loop-patch.patch _ (subst (λ l. c.loop-patch.patch < length l) c.patches-patch-end.ensures.patches c.loop-patch-test.true) c.patches-patch-end.ensures.whole.count

pub returns-in_err-part-2 : goal.returns-in_err-part-2
returns-in_err-part-2 c = IfOk-from_err c.from_residual-in_err-part-2.result _ c.from_residual-in_err-part-2.ensures.0

pub returns-in_err-push : goal.returns-in_err-push
returns-in_err-push c = IfOk-from_err c.from_residual-in_err-push.result _ c.from_residual-in_err-push.ensures.0
