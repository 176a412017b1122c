use Rattle.std.proofs.Common.{◌≡◌, ◌<◌, true, false, length, sym, ◌∙◌, arith, refl}
use Rattle.line_list.proofs.Elements.{found}
use Rattle.outside.proofs.Exits.{if_ok_none}
use Rattle.patch_filters.specs.Grepped.{test_of}
use Rattle.patch_filters.proofs.Searching.{asked-both, asked-none, none-more, none-there, some-here, still-kept}
use Rattle.patch_filters.proofs.Hits.{edit-count, edit-flag, edit_flags, edits-any, all-at}
use Rattle.std.specs.Prelude.{All}
use Rattle.hunk_core.specs.Turned.{LiesIn}
use Rattle.ed_form.specs.declared.script.EdEdit.{EdEdit}
use Rattle.patch_filters.proofs.search.edits_have_hit.Goals as goal

pub returns-then-branch-clause-hit : goal.returns-then-branch-clause-hit
returns-then-branch-clause-hit g c =
    let text = c.args.text.now in
    let items = c.args.script.now.edits.items in
    let i = c.loop-i.i in
    let mid = test_of (g.F.Finder.view c.loop-i.finder) in
    let lt : i < length items = omega (arith, c.loop-i-test.true) in
    some-here (edit_flags text items) i c.loop-i.invariant (edit-flag text items mid i c.index-edit.result.now true (found items i c.index-edit.result.now lt c.index-edit.ensures) (sym c.if-branch.true ∙ c.in_ok-edit_has_hit.ensures.hit))
    ∙ edits-any text items (test_of (g.F.Finder.view c.args.finder.now))

pub loop-i-preserved : goal.loop-i-preserved
loop-i-preserved g c =
    let text = c.args.text.now in
    let items = c.args.script.now.edits.items in
    let i = c.loop-i.i in
    let mid = test_of (g.F.Finder.view c.loop-i.finder) in
    let lt : i < length items = omega (arith, c.loop-i-test.true) in
    none-more (edit_flags text items) i c.loop-i.invariant c.in_ok-edit_has_hit.ensures.asked (edit-flag text items mid i c.index-edit.result.now false (found items i c.index-edit.result.now lt c.index-edit.ensures) (sym c.if-branch.false ∙ c.in_ok-edit_has_hit.ensures.hit))

pub returns-clause-hit : goal.returns-clause-hit
returns-clause-hit g c =
    let text = c.args.text.now in
    let items = c.args.script.now.edits.items in
    let i = c.loop-i.i in
    let all : i ≡ length items = omega (arith, c.loop-i-test.false, c.loop-i.auto.i-end) in
    let hit = test_of (g.F.Finder.view c.args.finder.now) in
    sym (none-there (edit_flags text items) i c.loop-i.invariant (omega (arith, all, edit-count text items hit))) ∙ edits-any text items hit

pub loop-i-init : goal.loop-i-init
loop-i-init g c = record { asked = asked-none (g.F.Finder.view c.args.finder.now); none = refl }

pub edit_has_hit-requires-clause-kept : goal.edit_has_hit-requires-clause-kept
edit_has_hit-requires-clause-kept g c = still-kept c.loop-i.invariant.asked c.requires.kept

pub returns-then-branch-clause-asked : goal.returns-then-branch-clause-asked
returns-then-branch-clause-asked g c = asked-both c.loop-i.invariant.asked c.in_ok-edit_has_hit.ensures.asked

pub returns-in_err-edit_has_hit-clause-hit : goal.returns-in_err-edit_has_hit-clause-hit
returns-in_err-edit_has_hit-clause-hit g c = if_ok_none _ _ c.from_residual.result c.from_residual.ensures.1

pub returns-in_err-edit_has_hit-clause-asked : goal.returns-in_err-edit_has_hit-clause-asked
returns-in_err-edit_has_hit-clause-asked g c = asked-both c.loop-i.invariant.asked c.in_err-edit_has_hit.ensures.asked

pub returns-clause-asked : goal.returns-clause-asked
returns-clause-asked g c = c.loop-i.invariant.asked

pub edit_has_hit-requires-clause-within : goal.edit_has_hit-requires-clause-within
edit_has_hit-requires-clause-within g c = all-at (λ (e : EdEdit). All (LiesIn c.args.text.now) e.added.items) c.args.script.now.edits.items c.loop-i.i c.index-edit.result.now c.requires.within (omega (arith, c.loop-i-test.true)) c.index-edit.ensures
