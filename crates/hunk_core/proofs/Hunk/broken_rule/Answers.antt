use Rattle.hunk_core.specs.PlainHunk.{hunk_of}
use Rattle.hunk_core.proofs.Walks.{empty-body, broken-lines, broken-start, broken-sum, broken-end, broken-none}
use Rattle.hunk_core.proofs.Hunk.broken_rule.Goals as goal

pub returns-then-is_empty : goal.returns-then-is_empty
returns-then-is_empty c = broken-lines (hunk_of c.args.text.now c.args.self.now) (empty-body c.args.text.now c.args.self.now _ c.if-is_empty.ensures)

pub returns-then-has_zero_start : goal.returns-then-has_zero_start
returns-then-has_zero_start c = broken-start (hunk_of c.args.text.now c.args.self.now) (empty-body c.args.text.now c.args.self.now _ c.if-is_empty.ensures) c.if-has_zero_start.ensures

pub returns-then-has_large_sum : goal.returns-then-has_large_sum
returns-then-has_large_sum c = broken-sum (hunk_of c.args.text.now c.args.self.now) (empty-body c.args.text.now c.args.self.now _ c.if-is_empty.ensures) c.if-has_zero_start.ensures c.if-has_large_sum.ensures

pub returns-then-has_open_line : goal.returns-then-has_open_line
returns-then-has_open_line c = broken-end (hunk_of c.args.text.now c.args.self.now) (empty-body c.args.text.now c.args.self.now _ c.if-is_empty.ensures) c.if-has_zero_start.ensures c.if-has_large_sum.ensures c.if-has_open_line.ensures

pub returns-else-has_open_line : goal.returns-else-has_open_line
returns-else-has_open_line c = broken-none (hunk_of c.args.text.now c.args.self.now) (empty-body c.args.text.now c.args.self.now _ c.if-is_empty.ensures) c.if-has_zero_start.ensures c.if-has_large_sum.ensures c.if-has_open_line.ensures
