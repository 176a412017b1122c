use Rattle.std.proofs.Common.{◌≤◌, ◌∷◌, drop, arith}
use Rattle.std.proofs.lemmas.Result.{err_from_is_err_and}
use Rattle.line_list.specs.Lines.{lines}
use Rattle.hunk_core.specs.PlainHunk.{hunk_of}
use Rattle.hunk_core.specs.Reading.{ahead}
use Rattle.read_patch_text.proofs.ChangeLemmas.{few-lines, no-dot-behind}
use Rattle.read_patch_text.proofs.OutlineLemmas.{unified-fails, unified-reads}
use Rattle.read_patch_text.proofs.outline.outline_unified.Goals as goal

pub returns-in_err-hunk_scan-clause-exact : goal.returns-in_err-hunk_scan-clause-exact
returns-in_err-hunk_scan-clause-exact c =
    let p = err_from_is_err_and c.from_residual.result c.from_residual.ensures.1 in
    rw (p.1, p.2) (unified-fails c.in_err-hunk_scan.field-0.0 c.args.line (lines (drop c.args.at c.args.text.now)) c.in_err-hunk_scan.ensures.fails)

pub returns : goal.returns
returns c = record {
  is = (
      let text = c.args.text.now in
      let given = c.in_ok-hunk_scan.ensures in
      let piece = given.read.piece in
      let end = c.in_ok-hunk_scan.hunk_scan.end in
      let low : c.args.at ≤ end = omega (arith, given.within.0) in
      record {
        lawful = c.in_ok-change.ensures.lawful text given.lawful given.few;
        some = given.within.0;
        high = given.within.1;
        numbers = omega (arith, piece.counted, few-lines text c.args.at end piece.own low given.within.1 piece.parts);
        dots = no-dot-behind piece.own (lines (drop end text)) (lines (drop c.args.at text)) piece.parts;
      });
  exact = (
      let text = c.args.text.now in
      let hunk_scan = c.in_ok-hunk_scan.hunk_scan in
      let read = c.in_ok-hunk_scan.ensures.read in
      rw (c.in_ok-change.ensures.only text read.others read.more) (unified-reads c.args.line (lines (drop c.args.at text)) (hunk_of text hunk_scan.first ∷ read.others) (ahead hunk_scan.next (lines (drop hunk_scan.end text))) read.read));
}

pub scan_hunks-requires-clause-short : goal.scan_hunks-requires-clause-short
scan_hunks-requires-clause-short c = c.requires.short

pub scan_hunks-requires-clause-small : goal.scan_hunks-requires-clause-small
scan_hunks-requires-clause-small c = c.requires.small

pub scan_hunks-requires-clause-within : goal.scan_hunks-requires-clause-within
scan_hunks-requires-clause-within c = c.requires.within

pub scan_hunks-requires-clause-opens : goal.scan_hunks-requires-clause-opens
scan_hunks-requires-clause-opens c = c.requires.opens
