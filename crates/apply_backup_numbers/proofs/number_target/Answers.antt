use Rattle.std.proofs.Common.{Some, None, refl}
use Rattle.apply_backup_numbers.proofs.Next.{numbered-by}
use Rattle.apply_backup_numbers.proofs.number_target.Goals as goal

pub returns-in_ok-give_backup-in-Some-clause-numbered : goal.returns-in_ok-give_backup-in-Some-clause-numbered
returns-in_ok-give_backup-in-Some-clause-numbered g c =
    numbered-by c.args.numbers (g.T.Tree.view c.args.tree.now).told c.args.target.now c.give_backup.new.target c.in_ok-last.last (Some c.in-Some.number)
    c.in_ok-last.ensures.last c.in-Some.ensures c.in_ok-give_backup-in-Some.ensures

pub returns-in-None-clause-numbered : goal.returns-in-None-clause-numbered
returns-in-None-clause-numbered g c =
    numbered-by c.args.numbers (g.T.Tree.view c.args.tree.now).told c.args.target.now c.args.target.now c.in_ok-last.last None c.in_ok-last.ensures.last c.in-None.ensures refl
