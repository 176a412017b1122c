use Rattle.std.proofs.Common.{ℕ, sym, ap, ◌∙◌}
use Rattle.split_recount.proofs.Bounds.{start-small}
use Rattle.split_recount.proofs.Stated.{said, stated-fits, stated-large}
use Rattle.split_recount.proofs.ranges.stated_by.Goals as goal

pub returns-in_default-clause-small : goal.returns-in_default-clause-small
returns-in_default-clause-small c = tt

pub returns-then-is_bad-clause-small : goal.returns-then-is_bad-clause-small
returns-then-is_bad-clause-small c = tt

pub returns-then-are_large : goal.returns-then-are_large
returns-then-are_large c = record {
  exact = stated-large c.args.line.now c.in-Some.old c.in-Some.new c.in-Some.rest.now c.in-Some.ensures c.if-is_bad.ensures c.if-is_bad-2.ensures c.if-are_large.ensures;
  small = tt;
}

pub returns : goal.returns
returns c = record {
  exact = stated-fits c.args.line.now c.in-Some.old c.in-Some.new c.in-Some.rest.now c.in-Some.ensures c.if-is_bad.ensures c.if-is_bad-2.ensures c.if-are_large.ensures ∙ ap (λ (n : ℕ). said n c.in-Some.rest.now) (sym c.first_line.ensures.is);
  small = c.first_line.ensures.small;
}

pub first_line-requires : goal.first_line-requires
first_line-requires c = start-small c.in-Some.old.start c.in-Some.old.count c.in-Some.new.start c.in-Some.new.count (sym c.if-are_large.ensures)
