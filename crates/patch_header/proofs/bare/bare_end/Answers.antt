use Rattle.std.proofs.Common.{◌≡◌, ◌+◌, length, drop, arith}
use Rattle.std.specs.Prelude.{sum_by}
use Rattle.line_list.specs.Lines.{lines}
use Rattle.patch_header.specs.GitHeaders.{git_header, extended_run}
use Rattle.patch_header.proofs.ScanLemmas.{header-sum, header-count, header-split, header-none, header-dots}
use Rattle.patch_header.proofs.bare.bare_end.Goals as goal

pub returns-in-None-clause-place : goal.returns-in-None-clause-place
returns-in-None-clause-place c =
    let none = header-none c.args.text.now c.args.at c.in-None.ensures.1 in
    let zero : sum_by length (git_header (lines (drop c.args.at c.args.text.now))) ≡ 0 = none.0 in
    omega (arith, zero)

pub returns-in-None-clause-number : goal.returns-in-None-clause-number
returns-in-None-clause-number c =
    let none = header-none c.args.text.now c.args.at c.in-None.ensures.1 in
    let zero : length (git_header (lines (drop c.args.at c.args.text.now))) ≡ 0 = none.1 in
    omega (arith, zero)

pub returns-in-None-clause-rest : goal.returns-in-None-clause-rest
returns-in-None-clause-rest c = (header-none c.args.text.now c.args.at c.in-None.ensures.1).2

pub returns-in-Some-clause-place : goal.returns-in-Some-clause-place
returns-in-Some-clause-place c =
    let text = c.args.text.now in
    let end = c.in-Some.end in
    let sums : c.args.at + sum_by length (git_header (lines (drop c.args.at text))) ≡ end + sum_by length (extended_run (lines (drop end text))) = header-sum text c.args.at end c.in-Some.ensures in
    let place : c.extended_from-block.result.end ≡ end + sum_by length (extended_run (lines (drop end text))) = c.extended_from-block.ensures.place in
    omega (arith, sums, place)

pub returns-in-Some-clause-number : goal.returns-in-Some-clause-number
returns-in-Some-clause-number c =
    let text = c.args.text.now in
    let end = c.in-Some.end in
    let longer : length (git_header (lines (drop c.args.at text))) ≡ length (extended_run (lines (drop end text))) + 1 = header-count text c.args.at end c.in-Some.ensures in
    let counted : c.extended_from-block.result.number ≡ (c.args.line + 1) + length (extended_run (lines (drop end text))) = c.extended_from-block.ensures.counted in
    omega (arith, longer, counted)

pub returns-in-Some-clause-rest : goal.returns-in-Some-clause-rest
returns-in-Some-clause-rest c = header-split c.args.text.now c.args.at c.in-Some.end (c.args.line + 1) c.extended_from-block.result c.in-Some.ensures c.extended_from-block.ensures

pub returns-in-Some-clause-dots : goal.returns-in-Some-clause-dots
returns-in-Some-clause-dots c = header-dots c.args.text.now c.args.at c.in-Some.end (c.args.line + 1) c.extended_from-block.result c.in-Some.ensures c.extended_from-block.ensures

pub returns-in-Some-clause-on : goal.returns-in-Some-clause-on
returns-in-Some-clause-on c = λ more. omega (arith, c.in-Some.ensures.low, c.extended_from-block.ensures.low)

pub returns-in-Some-clause-within : goal.returns-in-Some-clause-within
returns-in-Some-clause-within c = c.extended_from-block.ensures.within

pub returns-in-Some-clause-count : goal.returns-in-Some-clause-count
returns-in-Some-clause-count c = omega (arith, c.in-Some.ensures.low, c.extended_from-block.ensures.count)

pub extended_from-block-requires-clause-short : goal.extended_from-block-requires-clause-short
extended_from-block-requires-clause-short c = c.requires.short

pub extended_from-block-requires-clause-small : goal.extended_from-block-requires-clause-small
extended_from-block-requires-clause-small c = omega (arith, c.requires.small, c.in-Some.ensures.low)

pub extended_from-block-requires-clause-within : goal.extended_from-block-requires-clause-within
extended_from-block-requires-clause-within c = c.in-Some.ensures.high

pub returns-in-None-clause-within : goal.returns-in-None-clause-within
returns-in-None-clause-within c = c.requires.within
