use Rattle.std.proofs.Common.{refl}
use Rattle.std.proofs.lemmas.Result.{err_from_is_err_and}
use Rattle.hunk_core.specs.Reading.{ahead}
use Rattle.line_list.specs.Lines.{lines}
use Rattle.std.specs.Prelude.{drop}
use Rattle.read_patch_text.proofs.DigestLemmas.{rows-digested, unified-digest-fails, unified-digests, no-lawful}
use Rattle.read_patch_text.proofs.digest.digest_unified.Goals as goal

pub returns-in_err-rows-clause-exact : goal.returns-in_err-rows-clause-exact
returns-in_err-rows-clause-exact c =
    let p = err_from_is_err_and c.from_residual.result c.from_residual.ensures.1 in
    rw (p.1, p.2) (unified-digest-fails c.in_err-rows.field-0.0 c.args.text.now c.args.header c.requires.some c.requires.form c.in_err-rows.ensures.fails)

pub returns : goal.returns
returns c = record {
  is = (
      let given = c.in_ok-rows.ensures in
      rows-digested c.args.text.now c.args.header c.in_ok-rows.rows _ c.requires.some c.requires.form c.requires.opens given.within given.turn given.whole given.read
      (no-lawful c.args.text.now _ c.new-none.ensures.items) refl refl refl refl);
  exact = (
      let text = c.args.text.now in
      let rows = c.in_ok-rows.rows in
      let read = c.in_ok-rows.ensures.read in
      rw (c.new-none.ensures.items, read.olds) (unified-digests text c.args.header read.hunks (ahead rows.next (lines (drop rows.end text))) c.requires.some c.requires.form read.read));
}

pub read_rows-requires-clause-short : goal.read_rows-requires-clause-short
read_rows-requires-clause-short c = c.requires.short

pub read_rows-requires-clause-small : goal.read_rows-requires-clause-small
read_rows-requires-clause-small c = c.requires.small
