use Rattle.std.proofs.Common.{map, refl}
use Rattle.patch_options.specs.Simple.{plain_table}
use Rattle.patch_options.specs.Whole.{long_names}
use Rattle.patch_options.proofs.Growing.{one_more, all_told}
use Rattle.patch_options.proofs.LongNames.{group_names, names_pushed}
use Rattle.patch_options.proofs.whole.long_names.Goals as goal

pub loop-group-preserved : goal.loop-group-preserved
loop-group-preserved c =
    one_more group_names c.args.table.now c.loop-group.group-index _ (map (λ n. n.now) c.loop-group.names.items) (map (λ n. n.now) c.add_names.new.names.items) (long_names (plain_table c.args.table.now))
    c.loop-group-test.true c.loop-group.invariant c.in_ok-add_names.ensures

pub returns : goal.returns
returns c =
    all_told group_names c.args.table.now c.loop-group.group-index (map (λ n. n.now) c.loop-group.names.items) (long_names (plain_table c.args.table.now)) c.loop-group-test.false c.loop-group.invariant

pub loop-group-init : goal.loop-group-init
loop-group-init c =
    names_pushed c.args.table.now c.new-names.result.items c.push.new.self.items c.push-2.new.self.items _ _ c.new-names.ensures.items c.in_ok-push.ensures.items c.in_ok-push-2.ensures.items refl refl
