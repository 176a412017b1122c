use Rattle.std.proofs.Common.{◌<◌, false, length, Some, refl, ap, sym, ◌∙◌, arith}
use Rattle.std.proofs.lemmas.Option.{slice_get-get_or}
use Rattle.outside.proofs.Exits.{if_ok_none}
use Rattle.read_file_patch.specs.PlainPatch.{change_of}
use Rattle.patch_set.proofs.Named.{rows-counted}
use Rattle.patch_filters.specs.Grepped.{hits_of, test_of}
use Rattle.patch_filters.proofs.Searching.{asked-both, asked-none, flag-of, none-more, none-there, still-kept}
use Rattle.patch_filters.proofs.Hits.{hits-long}
use Rattle.patch_filters.proofs.search.first_hit.Goals as goal

pub returns-then-branch-clause-first : goal.returns-then-branch-clause-first
returns-then-branch-clause-first g c =
    let text = c.args.text.now in
    let p = c.args.patch.now in
    let i = c.loop-hunk.hunk in
    let mid = test_of (g.F.Finder.view c.loop-hunk.finder) in
    let flags = hits_of c.args.searched mid (change_of text p.change) in
    let lt : i < length flags = omega (arith, c.loop-hunk-test.true, c.hunks-hunk-end.ensures text, rows-counted text p.change, hits-long c.args.searched mid text p.change) in
    (c.loop-hunk.invariant.none, flag-of (λ hit. hits_of c.args.searched hit (change_of text p.change)) i c.loop-hunk.invariant (slice_get-get_or flags i false lt ∙ ap (λ b. Some b) (sym c.in_ok-is_hit.ensures.hit ∙ c.if-branch.true)))

pub returns-then-branch-clause-asked : goal.returns-then-branch-clause-asked
returns-then-branch-clause-asked g c = asked-both c.loop-hunk.invariant.asked c.in_ok-is_hit.ensures.asked

pub loop-hunk-preserved : goal.loop-hunk-preserved
loop-hunk-preserved g c =
    let text = c.args.text.now in
    let p = c.args.patch.now in
    let i = c.loop-hunk.hunk in
    let mid = test_of (g.F.Finder.view c.loop-hunk.finder) in
    let flags = hits_of c.args.searched mid (change_of text p.change) in
    let lt : i < length flags = omega (arith, c.loop-hunk-test.true, c.hunks-hunk-end.ensures text, rows-counted text p.change, hits-long c.args.searched mid text p.change) in
    none-more (λ hit. hits_of c.args.searched hit (change_of text p.change)) i c.loop-hunk.invariant c.in_ok-is_hit.ensures.asked (slice_get-get_or flags i false lt ∙ ap (λ b. Some b) (sym c.in_ok-is_hit.ensures.hit ∙ c.if-branch.false))

pub returns-in_err-is_hit-clause-first : goal.returns-in_err-is_hit-clause-first
returns-in_err-is_hit-clause-first g c = if_ok_none _ _ c.from_residual.result c.from_residual.ensures.1

pub returns-in_err-is_hit-clause-asked : goal.returns-in_err-is_hit-clause-asked
returns-in_err-is_hit-clause-asked g c = asked-both c.loop-hunk.invariant.asked c.in_err-is_hit.ensures.asked

pub returns-clause-first : goal.returns-clause-first
returns-clause-first g c =
    let text = c.args.text.now in
    let p = c.args.patch.now in
    let hit = test_of (g.F.Finder.view c.args.finder.now) in
    none-there (λ hit. hits_of c.args.searched hit (change_of text p.change)) c.loop-hunk.hunk c.loop-hunk.invariant
    (omega (arith, c.loop-hunk-test.false, c.loop-hunk.auto.hunk-end, c.hunks-hunk-end.ensures text, rows-counted text p.change, hits-long c.args.searched hit text p.change))

pub returns-clause-asked : goal.returns-clause-asked
returns-clause-asked g c = c.loop-hunk.invariant.asked

pub hunks-hunk-end-requires : goal.hunks-hunk-end-requires
hunks-hunk-end-requires g c = c.requires.few

pub loop-hunk-init : goal.loop-hunk-init
loop-hunk-init g c = record { asked = asked-none (g.F.Finder.view c.args.finder.now); none = refl }

pub is_hit-requires-clause-kept : goal.is_hit-requires-clause-kept
is_hit-requires-clause-kept g c = still-kept c.loop-hunk.invariant.asked c.requires.kept

pub is_hit-requires-clause-lawful : goal.is_hit-requires-clause-lawful
is_hit-requires-clause-lawful g c = c.requires.lawful

pub is_hit-requires-clause-within : goal.is_hit-requires-clause-within
is_hit-requires-clause-within g c = omega (arith, c.loop-hunk-test.true, c.hunks-hunk-end.ensures c.args.text.now, rows-counted c.args.text.now c.args.patch.now.change)
