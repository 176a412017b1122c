use Rattle.std.proofs.Common.{◌≡◌, ◌<◌, true, false, length, sym, ◌∙◌, arith, refl}
use Rattle.line_list.proofs.Elements.{found}
use Rattle.outside.proofs.Exits.{if_ok_none}
use Rattle.patch_filters.specs.Grepped.{test_of}
use Rattle.patch_filters.proofs.Searching.{asked-both, asked-none, none-more, none-there, some-here, still-kept}
use Rattle.patch_filters.proofs.Hits.{line-count, line-flag, line_flags, lines-any, all-at}
use Rattle.hunk_core.specs.Turned.{LiesIn}
use Rattle.hunk_core.specs.declared.HunkLine.{HunkLine}
use Rattle.patch_filters.proofs.search.hunk_has_hit.Goals as goal

pub returns-then-branch-clause-hit : goal.returns-then-branch-clause-hit
returns-then-branch-clause-hit g c =
    let text = c.args.text.now in
    let items = c.args.hunk.now.body.items in
    let i = c.loop-i.i in
    let mid = test_of (g.F.Finder.view c.loop-i.finder) in
    let lt : i < length items = omega (arith, c.loop-i-test.true) in
    some-here (line_flags text c.args.searched items) i c.loop-i.invariant (line-flag text c.args.searched items mid i c.index-line.result.now true (found items i c.index-line.result.now lt c.index-line.ensures) (sym c.if-branch.true ∙ c.in_ok-line_has_hit.ensures.hit))
    ∙ lines-any text c.args.searched items (test_of (g.F.Finder.view c.args.finder.now))

pub loop-i-preserved : goal.loop-i-preserved
loop-i-preserved g c =
    let text = c.args.text.now in
    let items = c.args.hunk.now.body.items in
    let i = c.loop-i.i in
    let mid = test_of (g.F.Finder.view c.loop-i.finder) in
    let lt : i < length items = omega (arith, c.loop-i-test.true) in
    none-more (line_flags text c.args.searched items) i c.loop-i.invariant c.in_ok-line_has_hit.ensures.asked (line-flag text c.args.searched items mid i c.index-line.result.now false (found items i c.index-line.result.now lt c.index-line.ensures) (sym c.if-branch.false ∙ c.in_ok-line_has_hit.ensures.hit))

pub returns-clause-hit : goal.returns-clause-hit
returns-clause-hit g c =
    let text = c.args.text.now in
    let items = c.args.hunk.now.body.items in
    let i = c.loop-i.i in
    let all : i ≡ length items = omega (arith, c.loop-i-test.false, c.loop-i.auto.i-end) in
    let hit = test_of (g.F.Finder.view c.args.finder.now) in
    sym (none-there (line_flags text c.args.searched items) i c.loop-i.invariant (omega (arith, all, line-count text c.args.searched items hit))) ∙ lines-any text c.args.searched items hit

pub loop-i-init : goal.loop-i-init
loop-i-init g c = record { asked = asked-none (g.F.Finder.view c.args.finder.now); none = refl }

pub line_has_hit-requires-clause-kept : goal.line_has_hit-requires-clause-kept
line_has_hit-requires-clause-kept g c = still-kept c.loop-i.invariant.asked c.requires.kept

pub returns-then-branch-clause-asked : goal.returns-then-branch-clause-asked
returns-then-branch-clause-asked g c = asked-both c.loop-i.invariant.asked c.in_ok-line_has_hit.ensures.asked

pub returns-in_err-line_has_hit-clause-hit : goal.returns-in_err-line_has_hit-clause-hit
returns-in_err-line_has_hit-clause-hit g c = if_ok_none _ _ c.from_residual.result c.from_residual.ensures.1

pub returns-in_err-line_has_hit-clause-asked : goal.returns-in_err-line_has_hit-clause-asked
returns-in_err-line_has_hit-clause-asked g c = asked-both c.loop-i.invariant.asked c.in_err-line_has_hit.ensures.asked

pub returns-clause-asked : goal.returns-clause-asked
returns-clause-asked g c = c.loop-i.invariant.asked

pub line_has_hit-requires-clause-within : goal.line_has_hit-requires-clause-within
line_has_hit-requires-clause-within g c = all-at (λ (l : HunkLine). LiesIn c.args.text.now l.span) c.args.hunk.now.body.items c.loop-i.i c.index-line.result.now c.requires.lawful.within (omega (arith, c.loop-i-test.true)) c.index-line.ensures
