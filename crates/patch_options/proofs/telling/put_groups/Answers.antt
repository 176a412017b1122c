use Rattle.std.proofs.Common.{◌++◌, flat_map, string_bytes}
use Rattle.patch_options.specs.Usage.{group_text}
use Rattle.patch_options.proofs.Growing.{one_more, all_told}
use Rattle.patch_options.proofs.telling.put_groups.Goals as goal

pub loop-group-preserved : goal.loop-group-preserved
loop-group-preserved c =
    one_more group_text c.args.groups.now c.loop-group.group-index _ (string_bytes c.loop-group.text) (string_bytes c.put_group.new.text) (string_bytes c.args.text.now ++ flat_map group_text c.args.groups.now)
    c.loop-group-test.true c.loop-group.invariant c.in_ok-put_group.ensures

pub returns : goal.returns
returns c =
    all_told group_text c.args.groups.now c.loop-group.group-index (string_bytes c.loop-group.text) (string_bytes c.args.text.now ++ flat_map group_text c.args.groups.now) c.loop-group-test.false c.loop-group.invariant
