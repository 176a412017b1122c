use Rattle.line_list.proofs.JoinLemmas.{last-lacks, none-lacks}
use Rattle.line_list.proofs.lacks_last_feed.Goals as goal

pub returns-in-Some : goal.returns-in-Some
returns-in-Some c =
    let item = c.in-Some.ensures.item in
    last-lacks c.args.text.now c.in-Some.field-0.now item.3.0 (item.3.1 0)

pub returns-in-None : goal.returns-in-None
returns-in-None c = none-lacks c.args.text.now c.in-None.ensures.item.3
