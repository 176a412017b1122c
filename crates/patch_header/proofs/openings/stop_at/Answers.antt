use Rattle.std.proofs.Common.{◌≡◌, true, not, drop, sym, rules, arith}
use Rattle.std.proofs.lemmas.Bool.{and_from}
use Rattle.line_list.specs.Lines.{lines}
use Rattle.hunk_core.specs.declared.Form.TheVariants.{Unified, Context, Normal}
use Rattle.patch_header.proofs.Stands.{opening-words, binary-words, bare-words}
use Rattle.patch_header.proofs.openings.stop_at.Goals as goal

pub returns-then-at_opening : goal.returns-then-at_opening
returns-then-at_opening c = sym ((opening-words c.args.ways Unified (lines (drop c.args.at c.args.text.now))).1 (and_from _ _ (sym c.if-admits.ensures) (sym c.if-at_opening.ensures)))

pub returns-then-at_opening-2 : goal.returns-then-at_opening-2
returns-then-at_opening-2 c = sym ((opening-words c.args.ways Context (lines (drop c.args.at c.args.text.now))).1 (and_from _ _ (sym c.if-admits-2.ensures) (sym c.if-at_opening-2.ensures)))

pub returns-then-at_opening-3 : goal.returns-then-at_opening-3
returns-then-at_opening-3 c = sym ((opening-words c.args.ways Normal (lines (drop c.args.at c.args.text.now))).1 (and_from _ _ (sym c.if-admits-3.ensures) (sym c.if-at_opening-3.ensures)))

pub returns-then-is_binary : goal.returns-then-is_binary
returns-then-is_binary c =
    let stops : not c.args.ways.skip_binary ≡ true = search rules in
    sym ((binary-words c.args.ways (lines (drop c.args.at c.args.text.now))).1 (rw c.requires.line.first (and_from _ _ stops (sym c.if-is_binary.ensures))))

pub returns-then-stops_bare : goal.returns-then-stops_bare
returns-then-stops_bare c = sym ((bare-words c.args.ways (lines (drop c.args.at c.args.text.now))).1 (sym c.if-stops_bare.ensures))

pub at_opening-requires : goal.at_opening-requires
at_opening-requires c = omega (arith, c.requires.line.low, c.requires.line.high)

pub at_opening-requires-then-admits-2 : goal.at_opening-requires-then-admits-2
at_opening-requires-then-admits-2 c = omega (arith, c.requires.line.low, c.requires.line.high)

pub at_opening-requires-then-admits-3 : goal.at_opening-requires-then-admits-3
at_opening-requires-then-admits-3 c = omega (arith, c.requires.line.low, c.requires.line.high)

pub slice_bounds-opens_script-count : goal.slice_bounds-opens_script-count
slice_bounds-opens_script-count c = omega (arith, c.requires.line.low)

pub slice_bounds-is_binary-count : goal.slice_bounds-is_binary-count
slice_bounds-is_binary-count c = omega (arith, c.requires.line.low)

pub stops_bare-requires-clause-short : goal.stops_bare-requires-clause-short
stops_bare-requires-clause-short c = c.requires.short

pub stops_bare-requires-clause-line : goal.stops_bare-requires-clause-line
stops_bare-requires-clause-line c = c.requires.line
