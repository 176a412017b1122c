use Rattle.std.proofs.Common.{◌≡◌, ◌∙◌, Some, drop, sym, None, refl, arith}
use Rattle.line_list.specs.Lines.{lines}
use Rattle.patch_header.specs.Openings.{stop_at}
use Rattle.patch_header.specs.declared.search.HeaderStep.TheVariants.{End}
use Rattle.patch_header.proofs.StepLemmas.{one-step, quiet-end}
use Rattle.patch_header.proofs.search.header_from.Goals as goal

pub returns-in-Some-stop_at-clause-exact : goal.returns-in-Some-stop_at-clause-exact
returns-in-Some-stop_at-clause-exact c =
    let stands : stop_at c.args.ways (lines (drop c.lines.here.at c.args.text.now)) ≡ Some c.in-Some-stop_at.stop = sym c.stop_at.ensures ∙ c.in-Some-stop_at.is in
    one-step c.args.ways c.args.text.now c.args.at c.args.line c.step_of.result (c.step_of.ensures.comes c.args.at c.args.line c.lines.invariant.passed stands)

pub returns-clause-exact : goal.returns-clause-exact
returns-clause-exact c =
    let passed = c.lines.invariant.passed in
    one-step c.args.ways c.args.text.now c.args.at c.args.line End (quiet-end c.args.ways c.args.text.now c.args.at passed.region c.lines.here.at passed.is_region c.in_default.ensures.1)

pub lines-init : goal.lines-init
lines-init c = record {
  passed = c.begin-here.ensures.passed c.args.ways c.args.text.now;
  lawful = record {
    within = omega (arith, c.begin-here.ensures.at, c.requires.within);
    small = omega (arith, c.begin-here.ensures.number, c.requires.small);
    lies = c.begin-here.ensures.seen c.args.text.now;
    trails = c.begin-here.ensures.trail c.args.text.now;
  };
  known = rw c.begin-here.ensures.at c.requires.known;
}

pub next_line-requires : goal.next_line-requires
next_line-requires c = c.lines.invariant.lawful.within

pub lacks_dot-behind-requires-clause-line : goal.lacks_dot-behind-requires-clause-line
lacks_dot-behind-requires-clause-line c = c.in-Some.ensures

pub lacks_dot-behind-requires-clause-known : goal.lacks_dot-behind-requires-clause-known
lacks_dot-behind-requires-clause-known c = c.lines.invariant.known

pub stop_at-requires-clause-line : goal.stop_at-requires-clause-line
stop_at-requires-clause-line c = c.in-Some.ensures

pub stop_at-requires-clause-told : goal.stop_at-requires-clause-told
stop_at-requires-clause-told c = c.lacks_dot-behind.ensures.told

pub step_of-requires-clause-lawful : goal.step_of-requires-clause-lawful
step_of-requires-clause-lawful c = c.lines.invariant.lawful

pub step_of-requires-clause-line : goal.step_of-requires-clause-line
step_of-requires-clause-line c = c.in-Some.ensures

pub returns-in-Some-stop_at-clause-comes : goal.returns-in-Some-stop_at-clause-comes
returns-in-Some-stop_at-clause-comes c =
    let stands : stop_at c.args.ways (lines (drop c.lines.here.at c.args.text.now)) ≡ Some c.in-Some-stop_at.stop = sym c.stop_at.ensures ∙ c.in-Some-stop_at.is in
    c.step_of.ensures.comes c.args.at c.args.line c.lines.invariant.passed stands

pub returns-in-Some-stop_at-clause-lies : goal.returns-in-Some-stop_at-clause-lies
returns-in-Some-stop_at-clause-lies c =
    let stands : stop_at c.args.ways (lines (drop c.lines.here.at c.args.text.now)) ≡ Some c.in-Some-stop_at.stop = sym c.stop_at.ensures ∙ c.in-Some-stop_at.is in
    c.step_of.ensures.lies c.args.at c.args.line c.lines.invariant.passed stands

pub returns-in-Some-stop_at-clause-known : goal.returns-in-Some-stop_at-clause-known
returns-in-Some-stop_at-clause-known c = λ known. c.step_of.ensures.dots (c.lines.invariant.known known)

pub advance-here-requires-clause-lawful : goal.advance-here-requires-clause-lawful
advance-here-requires-clause-lawful c = c.lines.invariant.lawful

pub advance-here-requires-clause-line : goal.advance-here-requires-clause-line
advance-here-requires-clause-line c = c.in-Some.ensures

pub lines-preserved : goal.lines-preserved
lines-preserved c =
    let none : stop_at c.args.ways (lines (drop c.lines.here.at c.args.text.now)) ≡ None = sym c.stop_at.ensures ∙ c.in_default-stop_at.is in
    record {
      passed = c.advance-here.ensures.passed c.args.ways c.args.at c.args.line refl c.lines.invariant.passed none;
      lawful = c.advance-here.ensures.lawful;
      known = rw c.advance-here.ensures.at c.lacks_dot-behind.ensures.known;
    }

pub returns-clause-comes : goal.returns-clause-comes
returns-clause-comes c =
    let passed = c.lines.invariant.passed in
    quiet-end c.args.ways c.args.text.now c.args.at passed.region c.lines.here.at passed.is_region c.in_default.ensures.1

pub step_of-requires-clause-short : goal.step_of-requires-clause-short
step_of-requires-clause-short c = c.requires.short

pub advance-here-requires-clause-short : goal.advance-here-requires-clause-short
advance-here-requires-clause-short c = c.requires.short

pub stop_at-requires-clause-short : goal.stop_at-requires-clause-short
stop_at-requires-clause-short c = c.requires.short

pub returns-clause-known : goal.returns-clause-known
returns-clause-known c = λ e. tt

pub returns-clause-lies : goal.returns-clause-lies
returns-clause-lies c = tt
