use Rattle.std.proofs.Common.{◌+◌, ◌<◌, ◌≤◌, ◌^◌, length, arith, rules}
use Rattle.patch_header.proofs.ScanLemmas.{scan-begins, scan-stops, scan-ends}
use Rattle.patch_header.proofs.bare.extended_from.Goals as goal

pub lines-init : goal.lines-init
lines-init c = scan-begins c.args.text.now c.args.at c.args.number c.no_git_lines.result c.requires.within c.no_git_lines.ensures.is (c.no_git_lines.ensures.lies c.args.text.now)

pub block_passed-here-requires-clause-small : goal.block_passed-here-requires-clause-small
block_passed-here-requires-clause-small c =
    let here = c.lines.here in
    let count : here.number + c.args.at ≤ c.args.number + here.end = c.lines.invariant.count in
    let within : here.end ≤ length c.args.text.now = c.lines.invariant.within in
    let short : length c.args.text.now < 2 ^ 32 = c.requires.short in
    let small : c.args.number ≤ 2 ^ 32 + c.args.at = c.requires.small in
    omega (arith, count, within, short, small)

pub returns-then-not-is_extended : goal.returns-then-not-is_extended
returns-then-not-is_extended c = scan-stops c.args.text.now c.args.at c.args.number c.lines.here c.in-Some.end c.lines.invariant c.in-Some.ensures (search rules)

pub returns : goal.returns
returns c = scan-ends c.args.text.now c.args.at c.args.number c.lines.here c.lines.invariant c.in_default.ensures.1

pub lines-preserved : goal.lines-preserved
lines-preserved c = c.block_passed-here.ensures.scanned c.args.at c.args.number c.lines.invariant

pub block_passed-here-requires-clause-lies : goal.block_passed-here-requires-clause-lies
block_passed-here-requires-clause-lies c = c.lines.invariant.lies
