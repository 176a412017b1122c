use Rattle.line_store.specs.declared.Half.TheVariants.{First, Second}
use Rattle.page_pair.specs.Pair.{page_of}
use Rattle.packed_pages.proofs.marks.Marks.new.Goals as goal

pub returns : goal.returns
returns c pair First = c.new.ensures (page_of pair First)
returns c pair Second = c.new-2.ensures (page_of pair Second)
