use Rattle.hunk_core.specs.Reading.{Fails, ◌>>=◌}
use Rattle.std.proofs.Common.{ap, subst, sym, ◌∙◌, arith}
use Rattle.read_patch_text.specs.Patches.{change_behind}
use Rattle.read_patch_text.proofs.Passed.{digests-with, end-fits, fails-on, fault-given, goes-far, lawful-patch, lies, not-below, nothing-said, number-on, opening-fits, start-fits, with_ranges}
use Rattle.read_patch_text.proofs.digest.digest_patch.Goals as goal

pub returns : goal.returns
returns c = record {
  is = (
      let is = c.in_ok-read.ensures.is in
      record {
        lawful = lawful-patch c.args.text.now _ is.lawful c.is_absent.ensures c.is_absent-2.ensures;
        region = c.requires.header.low;
        cut = is.cut;
        each = is.each;
        some = is.some;
        high = is.high;
      });
  region = ap (lies c.args.here.at c.args.header c.in_ok-read.read.end) c.in_ok-read.ensures.is.ends;
  progress = (
      let is = c.in_ok-read.ensures.is in
      record {
        within = is.high;
        numbers = number-on c.in_ok-read.read.next c.args.header.at c.args.header.opening c.in_ok-read.read.end c.args.here.at c.args.here.number is.numbers c.requires.header.numbers c.requires.numbers;
        few = not-below c.in_ok-read.read.end;
        known = λ e. is.dots (c.requires.known e);
      });
  behind = goes-far c.args.here.at c.args.header.at c.in_ok-read.read.end c.requires.header.low c.in_ok-read.ensures.is.some;
  exact = (
      let text = c.args.text.now in
      let h = c.args.header in
      digests-with text h (change_behind text h) ∙ ap (λ r. r >>= with_ranges text h) c.in_ok-read.ensures.exact);
}

pub returns-in_err-read : goal.returns-in_err-read
returns-in_err-read c = record {
  is = nothing-said _ _ c.from_residual.result c.from_residual.ensures.1;
  region = nothing-said _ _ c.from_residual.result c.from_residual.ensures.1;
  progress = nothing-said _ _ c.from_residual.result c.from_residual.ensures.1;
  behind = nothing-said _ _ c.from_residual.result c.from_residual.ensures.1;
  exact = (
      let text = c.args.text.now in
      let h = c.args.header in
      let e = c.in_err-read.field-0.0 in
      fault-given _ e c.from_residual.result _ c.from_residual.ensures.1 (subst (Fails e) (sym (digests-with text h (change_behind text h))) (fails-on e _ (with_ranges text h) c.in_err-read.ensures.exact)));
}

pub overflow_cast-patch : goal.overflow_cast-patch
overflow_cast-patch c = omega (arith, start-fits c.args.here.at c.args.header.at _ c.requires.header.low c.requires.header.high c.requires.short)

pub overflow_cast-patch-2 : goal.overflow_cast-patch-2
overflow_cast-patch-2 c = omega (arith, end-fits c.in_ok-read.read.end _ c.in_ok-read.ensures.is.high c.requires.short)

pub is_absent-requires-2-clause-pieces : goal.is_absent-requires-2-clause-pieces
is_absent-requires-2-clause-pieces c = c.requires.header.pieces

pub is_absent-requires-2-clause-lawful : goal.is_absent-requires-2-clause-lawful
is_absent-requires-2-clause-lawful c = c.in_ok-read.ensures.is.lawful

pub is_absent-requires-clause-pieces : goal.is_absent-requires-clause-pieces
is_absent-requires-clause-pieces c = c.requires.header.pieces

pub is_absent-requires-clause-lawful : goal.is_absent-requires-clause-lawful
is_absent-requires-clause-lawful c = c.in_ok-read.ensures.is.lawful

pub digest_behind-requires-clause-within : goal.digest_behind-requires-clause-within
digest_behind-requires-clause-within c = c.requires.header.high

pub digest_behind-requires-clause-opens : goal.digest_behind-requires-clause-opens
digest_behind-requires-clause-opens c = c.requires.header.begins

pub digest_behind-requires-clause-small : goal.digest_behind-requires-clause-small
digest_behind-requires-clause-small c = opening-fits c.args.header.opening c.args.here.at c.args.here.number c.args.header.at _ c.requires.header.numbers c.requires.numbers c.requires.header.high c.requires.short

pub digest_behind-requires-clause-short : goal.digest_behind-requires-clause-short
digest_behind-requires-clause-short c = c.requires.short
