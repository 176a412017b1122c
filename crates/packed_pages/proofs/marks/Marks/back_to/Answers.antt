use Rattle.line_store.specs.declared.Half.TheVariants.{First, Second}
use Rattle.page_pair.specs.Pair.{page_of}
use Rattle.packed_pages.proofs.marks.Marks.back_to.Goals as goal

pub returns-in-First-clause-marked : goal.returns-in-First-clause-marked
returns-in-First-clause-marked c pair are First = c.back_to.ensures.kept (page_of pair First) (are First)
returns-in-First-clause-marked c pair are Second = are Second

pub returns-in-Second-clause-marked : goal.returns-in-Second-clause-marked
returns-in-Second-clause-marked c pair are First = are First
returns-in-Second-clause-marked c pair are Second = c.back_to-in-Second.ensures.kept (page_of pair Second) (are Second)
