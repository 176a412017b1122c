use Rattle.std.proofs.Common.{◌≡◌, ◌+◌, length}
use Rattle.hunk_core.specs.declared.Side.TheVariants.{Forward, Reversed}
use Rattle.format_convert.specs.Fronts.{front, front_rest}
use Rattle.format_convert.specs.Walk.{edits_left}
use Rattle.format_convert.proofs.block.next_block.Given as goal

-- what was seen of the block and what is ahead of it are the whole
abbrev pub invariant-loop-found : goal.invariant-loop-found
invariant-loop-found l = record {
  first : l.block.first ≡ l.initial.block.first;
  drops : length (front Forward l.initial.block.first (edits_left l.kept l.fn.place)) ≡ l.block.drops + length (front Forward (l.block.first + l.block.drops) (edits_left l.kept l.block.behind));
  adds : length (front Reversed l.initial.block.first (edits_left l.kept l.fn.place)) ≡ l.block.adds + length (front Reversed (l.block.first + l.block.drops) (edits_left l.kept l.block.behind));
  rest : front_rest l.initial.block.first (edits_left l.kept l.fn.place) ≡ front_rest (l.block.first + l.block.drops) (edits_left l.kept l.block.behind);
  counted : l.block.drops + l.block.adds + length (edits_left l.kept l.block.behind) ≡ length (edits_left l.kept l.fn.place);
}

abbrev pub decreases-loop-found : goal.decreases-loop-found
decreases-loop-found l = length (edits_left l.kept l.block.behind)
