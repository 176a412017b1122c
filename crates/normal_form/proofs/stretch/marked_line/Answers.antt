use Rattle.std.proofs.Common.{◌≡◌, arith, refl, slice_range, true, rules}
use Rattle.std.specs.Prelude.{is_some}
use Rattle.hunk_core.specs.LineTests.{after}
use Rattle.hunk_core.proofs.TextLemmas.{slice-length}
use Rattle.normal_form.specs.Stretches.{marks}
use Rattle.normal_form.proofs.SliceLemmas.{marked-long, slice-behind}
use Rattle.normal_form.proofs.stretch.marked_line.Goals as goal

pub overflow_add-start : goal.overflow_add-start
overflow_add-start c =
    let is : is_some (after (marks c.args.side) (slice_range c.args.text.now c.args.at c.args.end)) ≡ true = search rules in
    let long = marked-long c.args.side (slice_range c.args.text.now c.args.at c.args.end) is in
    omega (arith, long, slice-length c.args.text.now c.args.at c.args.end c.requires.high)

pub overflow_cast-result : goal.overflow_cast-result
overflow_cast-result c =
    let is : is_some (after (marks c.args.side) (slice_range c.args.text.now c.args.at c.args.end)) ≡ true = search rules in
    let long = marked-long c.args.side (slice_range c.args.text.now c.args.at c.args.end) is in
    omega (arith, long, slice-length c.args.text.now c.args.at c.args.end c.requires.high)

pub returns-clause-order : goal.returns-clause-order
returns-clause-order c =
    let is : is_some (after (marks c.args.side) (slice_range c.args.text.now c.args.at c.args.end)) ≡ true = search rules in
    let long = marked-long c.args.side (slice_range c.args.text.now c.args.at c.args.end) is in
    omega (arith, long, slice-length c.args.text.now c.args.at c.args.end c.requires.high)

pub returns-clause-exact : goal.returns-clause-exact
returns-clause-exact c =
    let is : is_some (after (marks c.args.side) (slice_range c.args.text.now c.args.at c.args.end)) ≡ true = search rules in
    let there = slice-behind c.args.text.now c.args.at c.args.end c.args.side c.requires.high is in
    rw (there, c.mark_of.ensures) refl
