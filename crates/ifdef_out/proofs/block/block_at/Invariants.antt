use Rattle.std.proofs.Common.{◌≡◌, ◌||◌, length}
use Rattle.ifdef_out.specs.Chain.{block_end, block_added, behind_block, is_some_line}
use Rattle.ifdef_out.specs.Places.{edits_left}
use Rattle.ifdef_out.proofs.block.block_at.Given as goal

abbrev pub invariant-loop-found : goal.invariant-loop-found
invariant-loop-found l = record {
  end : block_end l.fn.first (edits_left l.edits l.fn.place) ≡ block_end l.block.end (edits_left l.edits l.block.behind);
  adding : is_some_line (block_added l.fn.first (edits_left l.edits l.fn.place)) ≡ (l.block.is_adding || is_some_line (block_added l.block.end (edits_left l.edits l.block.behind)));
  behind : behind_block l.fn.first (edits_left l.edits l.fn.place) ≡ behind_block l.block.end (edits_left l.edits l.block.behind);
}

abbrev pub decreases-loop-found : goal.decreases-loop-found
decreases-loop-found l = length (edits_left l.edits l.block.behind)
