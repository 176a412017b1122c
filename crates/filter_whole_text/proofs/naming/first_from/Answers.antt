use Rattle.std.proofs.Common.{◌≡◌, ◌<◌, ◌≤◌, get_or, length, refl, sym, ◌∙◌, ap, subst, arith}
use Rattle.std.proofs.lemmas.Option.{get_or_from_slice_get}
use Rattle.line_list.proofs.Elements.{there-is}
use Rattle.filter_whole_text.proofs.NameLoops.{passed-over, stops-here, none-there}
use Rattle.filter_whole_text.proofs.naming.first_from.Goals as goal

pub loop-patch-init : goal.loop-patch-init
loop-patch-init c = λ at le. refl

pub loop-patch-smaller : goal.loop-patch-smaller
loop-patch-smaller c =
    let lt : c.loop-patch.patch < length c.args.set.now.patches = subst (λ l. c.loop-patch.patch < length l) c.patches.ensures.patches c.loop-patch-test.true in
    omega (arith, lt)

pub loop-patch-preserved : goal.loop-patch-preserved
loop-patch-preserved c = λ at le.
    let v = c.args.set.now in
    let i = c.loop-patch.patch in
    let lt : i < length v.patches = subst (λ l. i < length l) c.patches.ensures.patches c.loop-patch-test.true in
    let p = there-is v.patches i lt in
    let q = c.index-patches-patch.result in
    let start : (get_or c.patches-in-loop-patch.result.now i q).span.start ≡ p.0.span.start =
    ap (λ l. (get_or l i q).span.start) c.patches-in-loop-patch.ensures.patches ∙ ap (λ x. x.span.start) (get_or_from_slice_get v.patches i p.0 q p.1) in
    passed-over v i p.0 p.1 c.args.place (subst (λ n. n < c.args.place) start c.if-patches-patch.true) at le ∙ c.loop-patch.invariant at le

pub returns-else-patches-patch-clause-same : goal.returns-else-patches-patch-clause-same
returns-else-patches-patch-clause-same c = λ at le. c.loop-patch.invariant at le

pub returns-else-patches-patch-clause-there : goal.returns-else-patches-patch-clause-there
returns-else-patches-patch-clause-there c = λ at le.
    let v = c.args.set.now in
    let i = c.loop-patch.patch in
    let lt : i < length v.patches = subst (λ l. i < length l) c.patches.ensures.patches c.loop-patch-test.true in
    let p = there-is v.patches i lt in
    let q = c.index-patches-patch.result in
    let start : (get_or c.patches-in-loop-patch.result.now i q).span.start ≡ p.0.span.start =
    ap (λ l. (get_or l i q).span.start) c.patches-in-loop-patch.ensures.patches ∙ ap (λ x. x.span.start) (get_or_from_slice_get v.patches i p.0 q p.1) in
    stops-here v i p.0 p.1 c.args.place (subst (λ n. c.args.place ≤ n) start c.if-patches-patch.false) at le

pub returns-after-loop-patch-clause-same : goal.returns-after-loop-patch-clause-same
returns-after-loop-patch-clause-same c = λ at le. c.loop-patch.invariant at le

pub returns-after-loop-patch-clause-there : goal.returns-after-loop-patch-clause-there
returns-after-loop-patch-clause-there c = λ at le.
    let v = c.args.set.now in
    let i = c.loop-patch.patch in
    let past : length v.patches ≤ i = subst (λ l. length l ≤ i) c.patches.ensures.patches c.loop-patch-test.false in
    none-there v i past at ∙ sym (none-there v i past 0)
