use Rattle.split_recount.proofs.Ends.{ends-header, ends-signed, ends-other}
use Rattle.split_recount.proofs.body.is_end.Goals.{then-not-is_body_line-via-then-not-is_body_line, then-not-is_body_line-via-else-not-is_body_line+then-eq}
use Rattle.split_recount.proofs.body.is_end.Goals as goal

pub slice_bounds-line-start : goal.slice_bounds-line-start
slice_bounds-line-start c = c.requires.low

pub slice_bounds-line-count : goal.slice_bounds-line-count
slice_bounds-line-count c = c.requires.low

pub slice_bounds-line-end : goal.slice_bounds-line-end
slice_bounds-line-end c = c.requires.high

pub at_header-requires-clause-low : goal.at_header-requires-clause-low
at_header-requires-clause-low c = c.requires.low

pub at_header-requires-clause-high : goal.at_header-requires-clause-high
at_header-requires-clause-high c = c.requires.high

pub returns-then-not-is_body_line : goal.returns-then-not-is_body_line
returns-then-not-is_body_line c = elim c.then-not-is_body_line.branch [
  | then-not-is_body_line-via-then-not-is_body_line w ↦ ends-other _ _ w.if-not-is_body_line.ensures
  | then-not-is_body_line-via-else-not-is_body_line+then-eq w ↦ ends-signed _ _ w.as_slice.result.now w.if-not-is_body_line.ensures w.as_slice.ensures w.if-eq.ensures
]

pub returns : goal.returns
returns c = ends-header _ _ c.at_header.result c.as_slice.result.now c.if-not-is_body_line.ensures c.as_slice.ensures c.if-eq.ensures c.at_header.ensures
