use Rattle.std.proofs.Common.{ℕ, List, length, filter, string_bytes, sym, ◌∙◌, ap, arith, lit<}
use Rattle.std.proofs.lemmas.Iterator.Consumers.{YieldsList-turn, YieldsList-end}
use Rattle.std.proofs.lemmas.Iterator.Splits.{YieldsList-from_str_split}
use Rattle.std.proofs.lemmas.List.{take_all, length_push}
use Rattle.std.specs.List.{join_with_byte}
use Rattle.outside.specs.Names.{is_kept, components}
use Rattle.outside.proofs.Lawful.{normal_more, normal_skip}
use Rattle.outside.proofs.name.normal_form.Goals as goal

pub loop-component-preserved-in-Continue-1 : goal.loop-component-preserved-in-Continue-1
loop-component-preserved-in-Continue-1 c =
    let text = c.args.text.now in
    let split = c.split-component-items.ensures in
    let gives = c.into_iter-component-iterator.ensures.into_iter_gives in
    let t = YieldsList-turn (YieldsList-from_str_split 47 text (lit< tt) (rw gives split.text) (rw gives split.has_more) (rw gives split.pattern)) c.loop-component.yielded _ c.loop-component.yielded_by _ _ c.in-Some.component c.in-Some.is c.next.ensures.steps in
    normal_more text (length c.loop-component.yielded) _ c.in-Some.component.now (string_bytes c.loop-component.kept) t.0 t.1
    (length_push c.loop-component.yielded c.in-Some.component) c.loop-component.invariant (string_bytes c.push_component.new.text) (sym c.is_kept.ensures ∙ c.if-is_kept.true) c.in_ok-push_component.ensures

pub loop-component-preserved : goal.loop-component-preserved
loop-component-preserved c =
    let text = c.args.text.now in
    let split = c.split-component-items.ensures in
    let gives = c.into_iter-component-iterator.ensures.into_iter_gives in
    let t = YieldsList-turn (YieldsList-from_str_split 47 text (lit< tt) (rw gives split.text) (rw gives split.has_more) (rw gives split.pattern)) c.loop-component.yielded _ c.loop-component.yielded_by _ _ c.in-Some.component c.in-Some.is c.next.ensures.steps in
    normal_skip text (length c.loop-component.yielded) _ c.in-Some.component.now (string_bytes c.loop-component.kept) t.0 t.1
    (length_push c.loop-component.yielded c.in-Some.component) c.loop-component.invariant (sym c.is_kept.ensures ∙ c.if-is_kept.false)

pub returns : goal.returns
returns c =
    let text = c.args.text.now in
    let split = c.split-component-items.ensures in
    let gives = c.into_iter-component-iterator.ensures.into_iter_gives in
    let t = YieldsList-end (YieldsList-from_str_split 47 text (lit< tt) (rw gives split.text) (rw gives split.has_more) (rw gives split.pattern)) c.loop-component.yielded _ c.loop-component.yielded_by _ _ c.in-None.is c.next.ensures.steps in
    c.loop-component.invariant ∙ ap (λ (l : List (List ℕ)). join_with_byte 47 (filter is_kept l)) (take_all (length c.loop-component.yielded) (components text) (omega (arith, t.1)))
