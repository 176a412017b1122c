use Rattle.std.proofs.Common.{subst, sym}
use Rattle.std.specs.List.{All}
use Rattle.std.proofs.lemmas.List.Elements.{All-nil}
use Rattle.packed_pages.specs.Marks.{IsMark}
use Rattle.packed_pages.proofs.marks.keep.Goals as goal

pub returns-then-mark-far_place : goal.returns-then-mark-far_place
returns-then-mark-far_place c = record { far = c.requires.marks.far; near = c.add.ensures c.args.page.now c.requires.is c.requires.marks.near }

pub returns-else-mark-far_place : goal.returns-else-mark-far_place
returns-else-mark-far_place c = record {
  far = c.add-else-mark-far_place.ensures c.args.page.now c.requires.is c.requires.marks.far;
  near = subst (All (IsMark c.args.page.now)) (sym c.clear.ensures) (All-nil (IsMark c.args.page.now));
}
