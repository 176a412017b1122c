use Rattle.std.proofs.Common.{◌∙◌}
use Rattle.cli_tool_words.proofs.Making.{one_mapped, all_mapped}
use Rattle.cli_tool_words.proofs.selecting.copied.Goals as goal

pub loop-text-preserved : goal.loop-text-preserved
loop-text-preserved c =
    one_mapped _ _ c.loop-text.list.items c.push.new.self.items c.in_ok-to_vec.field-0 c.args.texts.now c.loop-text.text-index _ c.in_ok-push.ensures.items c.loop-text.invariant c.loop-text-test.true (c.in_ok-to_vec.ensures.items_if_clones_equal (λ x y is. is) ∙ c.as_bytes.ensures.value)

pub returns : goal.returns
returns c = all_mapped _ _ c.loop-text.list.items c.args.texts.now c.loop-text.text-index c.loop-text-test.false c.loop-text.invariant
