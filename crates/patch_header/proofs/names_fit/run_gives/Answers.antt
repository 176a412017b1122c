use Rattle.std.proofs.Common.{sym, ◌∙◌, rules}
use Rattle.patch_header.specs.NamesFit.{gives}
use Rattle.patch_header.proofs.FitLemmas.{any-ends, any-stops, any-here, any-on}
use Rattle.patch_header.proofs.names_fit.run_gives.Goals as goal

pub returns-then-not-is_extended : goal.returns-then-not-is_extended
returns-then-not-is_extended c = sym (c.lines.invariant.same ∙ any-stops (gives c.args.name.now c.args.one.now c.args.two.now) c.args.text.now c.lines.place c.in-Some.end c.in-Some.ensures (search rules))

pub returns-then-gives : goal.returns-then-gives
returns-then-gives c = sym (c.lines.invariant.same ∙ any-here (gives c.args.name.now c.args.one.now c.args.two.now) c.args.text.now c.lines.place c.in-Some.end c.in-Some.ensures (search rules) (search rules))

pub lines-preserved : goal.lines-preserved
lines-preserved c = record {
  within = c.in-Some.ensures.high;
  same = c.lines.invariant.same ∙ any-on (gives c.args.name.now c.args.one.now c.args.two.now) c.args.text.now c.lines.place c.in-Some.end c.in-Some.ensures (search rules) (search rules);
}

pub returns : goal.returns
returns c = sym (c.lines.invariant.same ∙ any-ends (gives c.args.name.now c.args.one.now c.args.two.now) c.args.text.now c.lines.place c.in_default.ensures.1)
