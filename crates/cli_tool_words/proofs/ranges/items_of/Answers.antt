use Rattle.std.proofs.Common.{◌==◌, ◌∙◌, ◌∷◌, ◌++◌, [], inl, inr, refl, sym, length, lit<}
use Rattle.std.specs.List.{slice_split}
use Rattle.std.proofs.lemmas.Iterator.Consumers.{YieldsList-turn, YieldsList-end}
use Rattle.std.proofs.lemmas.Iterator.Splits.{YieldsList-from_str_split}
use Rattle.std.proofs.lemmas.List.{length_push}
use Rattle.clap.proofs.TakesLemmas.{passed_up}
use Rattle.patch_options.specs.declared.options.WordFault.TheVariants.{Memory}
use Rattle.outside.proofs.Exits.{if_ok_none}
use Rattle.cli_tool_words.specs.Ranges.{items_of}
use Rattle.cli_tool_words.proofs.Items.{nothing_read, item_read, item_refused, all_read}
use Rattle.cli_tool_words.proofs.ranges.items_of.Goals as goal

pub loop-part-init : goal.loop-part-init
loop-part-init c = nothing_read (slice_split (λ b. b == 44) c.args.text.now) c.new-items.result.items c.new-items.ensures.items

pub loop-part-preserved : goal.loop-part-preserved
loop-part-preserved c =
    let text = c.args.text.now in
    let split = c.split-part-items.ensures in
    let gives = c.into_iter-part-iterator.ensures.into_iter_gives in
    let t = YieldsList-turn (YieldsList-from_str_split 44 text (lit< tt) (rw gives split.text) (rw gives split.has_more) (rw gives split.pattern)) c.loop-part.yielded _ c.loop-part.yielded_by _ _ c.in-Some.part c.in-Some.is c.next.ensures.steps in
    item_read (slice_split (λ b. b == 44) text) (length c.loop-part.yielded) c.in-Some.part.now c.loop-part.items.items t.0 t.1 c.loop-part.invariant
    c.in-Some-item_of.item c.push.new.self.items (length (c.loop-part.yielded ++ c.in-Some.part ∷ [])) (sym c.in-Some-item_of.is ∙ c.item_of.ensures)
    c.in_ok-push-in-Some-item_of.ensures.items (length_push c.loop-part.yielded c.in-Some.part)

pub returns-in-None-item_of-clause-refused : goal.returns-in-None-item_of-clause-refused
unfolding items_of
returns-in-None-item_of-clause-refused c =
    let text = c.args.text.now in
    let split = c.split-part-items.ensures in
    let gives = c.into_iter-part-iterator.ensures.into_iter_gives in
    let t = YieldsList-turn (YieldsList-from_str_split 44 text (lit< tt) (rw gives split.text) (rw gives split.has_more) (rw gives split.pattern)) c.loop-part.yielded _ c.loop-part.yielded_by _ _ c.in-Some.part c.in-Some.is c.next.ensures.steps in
    inr (refl, item_refused (slice_split (λ b. b == 44) text) (length c.loop-part.yielded) c.in-Some.part.now c.loop-part.items.items t.0 t.1 c.loop-part.invariant (sym c.in-None-item_of.is ∙ c.item_of.ensures))

pub returns-clause-items : goal.returns-clause-items
unfolding items_of
returns-clause-items c =
    let text = c.args.text.now in
    let split = c.split-part-items.ensures in
    let gives = c.into_iter-part-iterator.ensures.into_iter_gives in
    let t = YieldsList-end (YieldsList-from_str_split 44 text (lit< tt) (rw gives split.text) (rw gives split.has_more) (rw gives split.pattern)) c.loop-part.yielded _ c.loop-part.yielded_by _ _ c.in-None.is c.next.ensures.steps in
    all_read (slice_split (λ b. b == 44) text) (length c.loop-part.yielded) c.loop-part.items.items t.1 c.loop-part.invariant

pub returns-in-None-item_of-clause-items : goal.returns-in-None-item_of-clause-items
returns-in-None-item_of-clause-items c = tt

pub returns-in_err-push-in-Some-item_of : goal.returns-in_err-push-in-Some-item_of
returns-in_err-push-in-Some-item_of c = record {
  items = if_ok_none _ _ c.from_residual.result c.from_residual.ensures.1;
  refused = passed_up c.from_residual.result Memory _ c.from_residual.ensures.1 (inl refl);
}
