use Rattle.std.proofs.Common.{sym, ◌∙◌}
use Rattle.series_stack.proofs.Meaning.{counted-yes, counted-no, counted-none}
use Rattle.series_stack.proofs.count.counted.Goals as goal

pub returns-then-is_whole : goal.returns-then-is_whole
returns-then-is_whole c = counted-yes c.args.most c.args.text.now (c.in-Some.count, c.in-Some.rest.now) c.in-Some.ensures (sym c.is_whole.ensures ∙ c.if-is_whole.true)

pub returns-else-is_whole : goal.returns-else-is_whole
returns-else-is_whole c = counted-no c.args.most c.args.text.now (c.in-Some.count, c.in-Some.rest.now) c.in-Some.ensures (sym c.is_whole.ensures ∙ c.if-is_whole.false)

pub returns-in-None : goal.returns-in-None
returns-in-None c = counted-none c.args.most c.args.text.now c.in-None.ensures
