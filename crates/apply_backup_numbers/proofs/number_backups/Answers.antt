use Rattle.apply_backup_numbers.proofs.Retargeted.{whole-still}
use Rattle.apply_backup_numbers.proofs.number_backups.Goals as goal

pub untried-requires : goal.untried-requires
untried-requires g c =
    let parts = c.take_apart-parts.result in
    whole-still c.args.options.now.numbers (g.T.Tree.view c.args.tree.now).told parts.text.items parts.ways parts.named.patches.items c.number_all.new.named.patches.items
    c.in-Ok.ensures.all.patches c.take_apart-parts.ensures.whole
