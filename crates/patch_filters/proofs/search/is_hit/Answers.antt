use Rattle.std.proofs.Common.{◌≡◌, ◌<◌, IfOk, sym, subst}
use Rattle.read_file_patch.specs.PlainPatch.{row_count, IsLawfulChange}
use Rattle.line_list.proofs.Elements.{found}
use Rattle.patch_filters.specs.Grepped.{test_of}
use Rattle.patch_filters.proofs.Hits.{hunk-hits, all-at, script-hit}
use Rattle.hunk_core.specs.Turned.{IsLawful}
use Rattle.patch_filters.proofs.search.is_hit.Goals as goal

pub returns-in-Hunks-clause-hit : goal.returns-in-Hunks-clause-hit
returns-in-Hunks-clause-hit g c =
    let hs = c.in-Hunks.hunks.items in
    let i = c.args.hunk in
    let h = c.index.result.now in
    let within = subst (λ x. i < row_count x) c.in-Hunks.is c.requires.within in
    rw c.in-Hunks.is (subst (λ flag. IfOk c.hunk_has_hit.result (λ b. b ≡ flag)) (sym (hunk-hits c.args.text.now c.args.searched (test_of (g.F.Finder.view c.args.finder.now)) hs i h (found hs i h within c.index.ensures))) c.hunk_has_hit.ensures.hit)

pub hunk_has_hit-requires-clause-kept : goal.hunk_has_hit-requires-clause-kept
hunk_has_hit-requires-clause-kept g c = c.requires.kept

pub script_has_hit-requires-clause-kept : goal.script_has_hit-requires-clause-kept
script_has_hit-requires-clause-kept g c = c.requires.kept

pub returns-in-Hunks-clause-asked : goal.returns-in-Hunks-clause-asked
returns-in-Hunks-clause-asked g c = c.hunk_has_hit.ensures.asked

pub returns-in-Script-clause-asked : goal.returns-in-Script-clause-asked
returns-in-Script-clause-asked g c = c.script_has_hit.ensures.asked

pub returns-in-Script-clause-hit : goal.returns-in-Script-clause-hit
returns-in-Script-clause-hit g c =
    let lt = subst (λ x. c.args.hunk < row_count x) c.in-Script.is c.requires.within in
    rw c.in-Script.is (subst (λ flag. IfOk c.script_has_hit.result (λ b. b ≡ flag)) (script-hit c.args.text.now c.args.searched (test_of (g.F.Finder.view c.args.finder.now)) c.in-Script.script c.args.hunk lt) c.script_has_hit.ensures.hit)

pub script_has_hit-requires-clause-within : goal.script_has_hit-requires-clause-within
script_has_hit-requires-clause-within g c = (subst (λ x. IsLawfulChange c.args.text.now x) c.in-Script.is c.requires.lawful).within

pub hunk_has_hit-requires-clause-lawful : goal.hunk_has_hit-requires-clause-lawful
hunk_has_hit-requires-clause-lawful g c = all-at (IsLawful c.args.text.now) c.in-Hunks.hunks.items c.args.hunk c.index.result.now (subst (λ x. IsLawfulChange c.args.text.now x) c.in-Hunks.is c.requires.lawful).lawful (subst (λ x. c.args.hunk < row_count x) c.in-Hunks.is c.requires.within) c.index.ensures
