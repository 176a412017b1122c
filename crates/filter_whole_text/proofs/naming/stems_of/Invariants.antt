use Rattle.std.proofs.Common.{length}
use Rattle.split_recount.specs.Parts.{rows_of}
use Rattle.filter_whole_text.proofs.NameLoops.{Stands}
use Rattle.filter_whole_text.proofs.naming.stems_of.Given as goal

abbrev pub invariant-loop-index : goal.invariant-loop-index
invariant-loop-index l = Stands l.strip (rows_of l.set) l.parts (length l.set.text) l.index l.patch l.stems.items
