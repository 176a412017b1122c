use Rattle.std.proofs.Common.{sym, ◌∙◌}
use Rattle.split_recount.specs.Measured.{left_of}
use Rattle.split_recount.proofs.Numbers.{ranges-none, ranges-large, ranges-fit}
use Rattle.split_recount.proofs.starts.true_ranges.Goals as goal

pub returns-in_default : goal.returns-in_default
returns-in_default c = λ body rest e. ranges-none (left_of c.args.earlier) c.args.first (left_of c.args.sides) c.old_start.result body rest (record { start_is = c.old_start.ensures.is; new_is = c.in_default.ensures }) e

pub returns-then-are_large : goal.returns-then-are_large
returns-then-are_large c = λ body rest e. ranges-large (left_of c.args.earlier) c.args.first (left_of c.args.sides) c.old_start.result c.in-Some.start body rest (record { start_is = c.old_start.ensures.is; new_is = c.in-Some.ensures }) (sym c.are_large.ensures ∙ c.if-are_large.true) e

pub returns : goal.returns
returns c = λ body rest e. ranges-fit (left_of c.args.earlier) c.args.first (left_of c.args.sides) c.old_start.result c.in-Some.start body rest (record { start_is = c.old_start.ensures.is; new_is = c.in-Some.ensures }) (sym c.are_large.ensures ∙ c.if-are_large.false) e
