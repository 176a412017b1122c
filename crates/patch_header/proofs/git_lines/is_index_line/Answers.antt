use Rattle.patch_header.proofs.Tests.{first-of, second-of}
use Rattle.patch_header.proofs.git_lines.is_index_line.Goals as goal

pub returns-then-starts : goal.returns-then-starts
returns-then-starts c = first-of _ _ _ c.starts.ensures c.if-starts.true

pub returns-then-starts-2 : goal.returns-then-starts-2
returns-then-starts-2 c = second-of _ _ _ _ c.starts.ensures c.if-starts.false (first-of _ _ _ c.starts-else-starts.ensures c.if-starts-2.true)

pub returns-else-starts-2 : goal.returns-else-starts-2
returns-else-starts-2 c = second-of _ _ _ _ c.starts.ensures c.if-starts.false (second-of _ _ _ _ c.starts-else-starts.ensures c.if-starts-2.false c.starts-else-starts-2.ensures)
