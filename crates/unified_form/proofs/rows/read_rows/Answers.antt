use Rattle.std.proofs.Common.{drop}
use Rattle.line_list.specs.Lines.{lines}
use Rattle.hunk_core.specs.Reading.{ahead_of}
use Rattle.hunk_core.proofs.PieceLemmas.{spans_begin}
use Rattle.unified_form.specs.Grammar.{SpellsHunk}
use Rattle.unified_form.proofs.Pieces.{reading_finds}
use Rattle.unified_form.proofs.rows.read_rows.Goals as goal

pub walk-requires-clause-ready : goal.walk-requires-clause-ready
walk-requires-clause-ready c = c.unknown.ensures c.args.text.now

pub returns-clause-read : goal.returns-clause-read
returns-clause-read c =
    let text = c.args.text.now in
    let taken = c.in_ok-end.ensures.taken in
    let has = taken.has (record { olds_are = c.new-2.ensures.items; pieces = spans_begin SpellsHunk text c.args.at _ c.new.ensures.items }) in
    record {
      hunks = taken.hunks;
      olds = has.olds_are;
      pieces = has.pieces.pieces;
      read = taken.read;
      piece = reading_finds c.args.line (lines (drop c.args.at text)) (taken.hunks, ahead_of text c.in_ok-end.end) c.requires.opens taken.read;
    }
