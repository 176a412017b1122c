use Rattle.std.proofs.Common.{◌≡◌, ◌<◌, drop, length, sym, ap, ◌∙◌, arith, rules}
use Rattle.std.proofs.lemmas.List.{drop_all}
use Rattle.normal_form.specs.Canonical.{are_added, drops_come_first}
use Rattle.normal_form.proofs.WritingLemmas.{drops-more, drops-stop, drops-nil}
use Rattle.normal_form.proofs.writing.is_in_order.Goals as goal
use Rattle.normal_form.proofs.writing.is_in_order.Goals.{then-loop-i-test+else-is_dropped, else-loop-i-test}

pub loop-i-preserved : goal.loop-i-preserved
loop-i-preserved c =
    let items = c.args.hunk.now.body.items in
    let lt : c.loop-i.i < length items = search rules in
    record { within = omega (arith, lt); same = sym (drops-more items c.loop-i.i c.index.result.now lt c.index.ensures (search rules)) ∙ c.loop-i.invariant.same }

pub returns : goal.returns
returns c =
    let items = c.args.hunk.now.body.items in
    let stops : drops_come_first (drop c.loop-i.i items) ≡ are_added (drop c.loop-i.i items) = elim c.loop-i-test.branch [
      | then-loop-i-test+else-is_dropped w ↦ drops-stop items c.loop-i.i w.index.result.now (search rules) w.index.ensures (search rules)
      | else-loop-i-test w ↦ (let nil = drop_all c.loop-i.i items (search rules) in ap drops_come_first nil ∙ drops-nil ∙ ap are_added (sym nil))
    ] in
    c.are_adds.ensures ∙ sym stops ∙ c.loop-i.invariant.same
