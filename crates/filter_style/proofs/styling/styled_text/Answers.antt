use Rattle.cli_tool_words.specs.PlainJobs.{plain_style}
use Rattle.filter_style.proofs.Words.{patches-more, patches-all}
use Rattle.filter_style.proofs.styling.styled_text.Goals as goal

pub loop-patch-preserved : goal.loop-patch-preserved
loop-patch-preserved c =
    patches-more (plain_style c.args.style.now) c.args.text.now c.args.patches.now c.loop-patch.patch-index c.patch-item.result c.loop-patch.out.items c.put_region.new.out.items _ c.loop-patch.at
    c.loop-patch-test.true c.patch-item.is c.loop-patch.invariant c.in_ok-put_region.ensures

pub returns : goal.returns
returns c =
    patches-all (plain_style c.args.style.now) c.args.text.now c.args.patches.now c.loop-patch.patch-index c.loop-patch.out.items c.put_behind.new.out.items _ c.loop-patch.at
    c.loop-patch-test.false c.loop-patch.invariant c.in_ok-put_behind.ensures
