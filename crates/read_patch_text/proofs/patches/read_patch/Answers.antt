use Rattle.std.proofs.Common.{◌≡◌, ◌+◌, ◌≤◌, ◌∙◌, arith, ap, refl}
use Rattle.read_file_patch.specs.PlainPatch.{row_count}
use Rattle.read_patch_text.proofs.ChangeLemmas.{rows-counted, rows-behind}
use Rattle.hunk_core.specs.Reading.{◌>>=◌}
use Rattle.read_patch_text.proofs.Passed.{behind-fits, end-fits, fails-on, fault-given, goes-far, lawful-patch, nothing-said, opening-fits, opening-low, start-fits, with_header}
use Rattle.read_patch_text.proofs.patches.read_patch.Goals as goal

pub overflow_add-behind : goal.overflow_add-behind
overflow_add-behind c =
    let text = c.args.text.now in
    let read = c.in_ok-read.read in
    let count : c.hunks.result ≡ row_count read.change = c.hunks.ensures text ∙ rows-counted text read.change in
    let within : c.args.header.at + row_count read.change ≤ read.end = rows-behind text c.args.header read c.in_ok-read.ensures.is in
    omega (arith, count, within, c.in_ok-read.ensures.is.high, c.requires.header.low, c.requires.few, c.requires.short)

pub returns : goal.returns
returns c = record {
  is = (
      let is = c.in_ok-read.ensures.is in
      let header = c.requires.header in
      record {
        lawful = lawful-patch c.args.text.now _ is.lawful c.is_absent.ensures c.is_absent-2.ensures;
        begins = refl;
        region = header.low;
        goes = is.goes;
        cut = is.cut;
        ends = is.ends;
        each = is.each;
        pieces = is.pieces;
        some = is.some;
        rows = is.rows;
        high = is.high;
        names = header.pieces;
        opening = opening-low c.args.header.opening c.args.here.at c.args.here.number c.args.header.at header.numbers c.requires.numbers;
        names_line = header.names_line;
        first = refl;
        targets = c.new.ensures.items;
      });
  header = refl;
  progress = (
      let text = c.args.text.now in
      let read = c.in_ok-read.read in
      let is = c.in_ok-read.ensures.is in
      let count : c.hunks.result ≡ row_count read.change = c.hunks.ensures text ∙ rows-counted text read.change in
      let within : c.args.header.at + row_count read.change ≤ read.end = rows-behind text c.args.header read is in
      record {
        within = is.high;
        numbers = omega (arith, is.numbers, c.requires.header.numbers, c.requires.numbers);
        few = omega (arith, count, within, c.requires.header.low, c.requires.few);
        known = λ e. is.dots (c.requires.known e);
      });
  behind = (goes-far c.args.here.at c.args.header.at c.in_ok-read.read.end c.requires.header.low c.in_ok-read.ensures.is.some, refl, ap (λ n. c.args.here.hunks + n) (c.hunks.ensures c.args.text.now ∙ rows-counted c.args.text.now c.in_ok-read.read.change));
  exact = ap (λ r. r >>= with_header c.args.text.now c.args.header) c.in_ok-read.ensures.exact;
}

pub hunks-requires : goal.hunks-requires
hunks-requires c = behind-fits _ c.args.header.at c.in_ok-read.read.end _ (rows-behind c.args.text.now c.args.header c.in_ok-read.read c.in_ok-read.ensures.is) c.in_ok-read.ensures.is.high c.requires.short

pub overflow_cast-patch : goal.overflow_cast-patch
overflow_cast-patch c = omega (arith, start-fits c.args.here.at c.args.header.at _ c.requires.header.low c.requires.header.high c.requires.short)

pub overflow_cast-patch-2 : goal.overflow_cast-patch-2
overflow_cast-patch-2 c = omega (arith, end-fits c.in_ok-read.read.end _ c.in_ok-read.ensures.is.high c.requires.short)

pub is_absent-requires-2-clause-pieces : goal.is_absent-requires-2-clause-pieces
is_absent-requires-2-clause-pieces c = c.requires.header.pieces

pub is_absent-requires-2-clause-lawful : goal.is_absent-requires-2-clause-lawful
is_absent-requires-2-clause-lawful c = c.in_ok-read.ensures.is.lawful

pub is_absent-requires-clause-pieces : goal.is_absent-requires-clause-pieces
is_absent-requires-clause-pieces c = c.requires.header.pieces

pub returns-in_err-read : goal.returns-in_err-read
returns-in_err-read c = record {
  is = nothing-said _ _ c.from_residual.result c.from_residual.ensures.1;
  header = nothing-said _ _ c.from_residual.result c.from_residual.ensures.1;
  progress = nothing-said _ _ c.from_residual.result c.from_residual.ensures.1;
  behind = nothing-said _ _ c.from_residual.result c.from_residual.ensures.1;
  exact = fault-given _ c.in_err-read.field-0.0 c.from_residual.result _ c.from_residual.ensures.1 (fails-on c.in_err-read.field-0.0 _ (with_header c.args.text.now c.args.header) c.in_err-read.ensures.exact);
}

pub is_absent-requires-clause-lawful : goal.is_absent-requires-clause-lawful
is_absent-requires-clause-lawful c = c.in_ok-read.ensures.is.lawful

pub read_behind-requires-clause-within : goal.read_behind-requires-clause-within
read_behind-requires-clause-within c = c.requires.header.high

pub read_behind-requires-clause-opens : goal.read_behind-requires-clause-opens
read_behind-requires-clause-opens c = c.requires.header.begins

pub read_behind-requires-clause-small : goal.read_behind-requires-clause-small
read_behind-requires-clause-small c = opening-fits c.args.header.opening c.args.here.at c.args.here.number c.args.header.at _ c.requires.header.numbers c.requires.numbers c.requires.header.high c.requires.short

pub read_behind-requires-clause-short : goal.read_behind-requires-clause-short
read_behind-requires-clause-short c = c.requires.short
