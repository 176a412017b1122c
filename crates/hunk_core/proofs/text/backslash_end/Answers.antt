use Rattle.std.proofs.Common.{drop, sym, ap, ◌∙◌}
use Rattle.std.proofs.lemmas.List.{take_rest}
use Rattle.hunk_core.specs.LineTests.{is_backslash}
use Rattle.hunk_core.proofs.FirstBytes.{no-backslash, a-line, line-range}
use Rattle.hunk_core.proofs.text.backslash_end.Goals as goal

pub returns-then-not-begins_backslash-clause-exact : goal.returns-then-not-begins_backslash-clause-exact
returns-then-not-begins_backslash-clause-exact c =
    no-backslash (drop c.args.at c.args.text.now) (ap is_backslash (sym (take_rest c.args.text.now c.args.at)) ∙ sym c.begins_backslash.ensures ∙ c.if-not-begins_backslash.true)

pub returns-clause-exact : goal.returns-clause-exact
returns-clause-exact c =
    a-line c.args.text.now c.args.at c.next_line.result c.next_line.ensures (ap is_backslash (sym (take_rest c.args.text.now c.args.at)) ∙ sym c.begins_backslash.ensures ∙ c.if-not-begins_backslash.false)

pub returns-clause-range : goal.returns-clause-range
returns-clause-range c = line-range c.args.text.now c.args.at c.next_line.result c.next_line.ensures

pub returns-then-not-begins_backslash-clause-range : goal.returns-then-not-begins_backslash-clause-range
returns-then-not-begins_backslash-clause-range c = tt

pub slice_bounds-begins_backslash-count : goal.slice_bounds-begins_backslash-count
slice_bounds-begins_backslash-count c = c.requires

pub slice_bounds-begins_backslash-start : goal.slice_bounds-begins_backslash-start
slice_bounds-begins_backslash-start c = c.requires
