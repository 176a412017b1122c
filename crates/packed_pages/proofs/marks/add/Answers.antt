use Rattle.std.proofs.Common.{sym, subst}
use Rattle.std.specs.List.{All}
use Rattle.std.proofs.lemmas.List.Elements.{All-push}
use Rattle.packed_pages.specs.Marks.{IsMark}
use Rattle.packed_pages.proofs.marks.add.Goals as goal

pub returns-then-not-is_full : goal.returns-then-not-is_full
returns-then-not-is_full c = λ page is all. subst (All (IsMark page)) (sym c.push.ensures.items) (All-push (IsMark page) c.args.marks.now.items c.args.mark all is)
