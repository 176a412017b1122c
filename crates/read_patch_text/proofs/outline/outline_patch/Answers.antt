use Rattle.hunk_core.specs.Reading.{Fails, ◌>>=◌}
use Rattle.std.proofs.Common.{ap, subst, sym, ◌∙◌, arith}
use Rattle.read_patch_text.specs.Patches.{change_behind}
use Rattle.read_patch_text.proofs.Passed.{end-fits, fails-on, fault-given, goes-far, lawful-patch, not-below, nothing-said, number-on, opening-fits, outlines-with, start-fits, with_header}
use Rattle.read_patch_text.proofs.outline.outline_patch.Goals as goal

pub returns : goal.returns
returns c = record {
  lawful = lawful-patch c.args.text.now _ c.in_ok-read.ensures.is.lawful c.is_absent.ensures c.is_absent-2.ensures;
  progress = (
      let is = c.in_ok-read.ensures.is in
      record {
        within = is.high;
        numbers = number-on c.in_ok-read.read.next c.args.header.at c.args.header.opening c.in_ok-read.read.end c.args.here.at c.args.here.number is.numbers c.requires.header.numbers c.requires.numbers;
        few = not-below c.in_ok-read.read.end;
        known = λ e. is.dots (c.requires.known e);
      });
  behind = goes-far c.args.here.at c.args.header.at c.in_ok-read.read.end c.requires.header.low c.in_ok-read.ensures.is.some;
  exact = (
      let text = c.args.text.now in
      let h = c.args.header in
      outlines-with text h (change_behind text h) ∙ ap (λ r. r >>= with_header text h) c.in_ok-read.ensures.exact);
}

pub returns-in_err-read : goal.returns-in_err-read
returns-in_err-read c = record {
  lawful = nothing-said _ _ c.from_residual.result c.from_residual.ensures.1;
  progress = nothing-said _ _ c.from_residual.result c.from_residual.ensures.1;
  behind = nothing-said _ _ c.from_residual.result c.from_residual.ensures.1;
  exact = (
      let text = c.args.text.now in
      let h = c.args.header in
      let e = c.in_err-read.field-0.0 in
      fault-given _ e c.from_residual.result _ c.from_residual.ensures.1 (subst (Fails e) (sym (outlines-with text h (change_behind text h))) (fails-on e _ (with_header text h) c.in_err-read.ensures.exact)));
}

pub overflow_cast-patch : goal.overflow_cast-patch
overflow_cast-patch c = omega (arith, start-fits c.args.here.at c.args.header.at _ c.requires.header.low c.requires.header.high c.requires.short)

pub overflow_cast-patch-2 : goal.overflow_cast-patch-2
overflow_cast-patch-2 c = omega (arith, end-fits c.in_ok-read.read.end _ c.in_ok-read.ensures.is.high c.requires.short)

pub is_absent-requires-2-clause-pieces : goal.is_absent-requires-2-clause-pieces
is_absent-requires-2-clause-pieces c = c.requires.header.pieces

pub is_absent-requires-2-clause-lawful : goal.is_absent-requires-2-clause-lawful
is_absent-requires-2-clause-lawful c = c.in_ok-read.ensures.is.lawful

pub is_absent-requires-clause-pieces : goal.is_absent-requires-clause-pieces
is_absent-requires-clause-pieces c = c.requires.header.pieces

pub is_absent-requires-clause-lawful : goal.is_absent-requires-clause-lawful
is_absent-requires-clause-lawful c = c.in_ok-read.ensures.is.lawful

pub outline_behind-requires-clause-within : goal.outline_behind-requires-clause-within
outline_behind-requires-clause-within c = c.requires.header.high

pub outline_behind-requires-clause-opens : goal.outline_behind-requires-clause-opens
outline_behind-requires-clause-opens c = c.requires.header.begins

pub outline_behind-requires-clause-small : goal.outline_behind-requires-clause-small
outline_behind-requires-clause-small c = opening-fits c.args.header.opening c.args.here.at c.args.here.number c.args.header.at _ c.requires.header.numbers c.requires.numbers c.requires.header.high c.requires.short

pub outline_behind-requires-clause-short : goal.outline_behind-requires-clause-short
outline_behind-requires-clause-short c = c.requires.short
