use Rattle.std.proofs.Common.{◌≡◌, ◌<◌, ◌||◌, ◌∙◌, IfOk, false, length, get_or, ap, arith, subst, sym}
use Rattle.read_file_patch.specs.PlainPatch.{change_of}
use Rattle.patch_filters.specs.Grepped.{hits_of, test_of}
use Rattle.patch_filters.proofs.Hits.{hits-long}
use Rattle.patch_filters.proofs.HunkTexts.{written-at}
use Rattle.patch_filters.proofs.Searching.{asked-none}
use Rattle.patch_filters.proofs.grep_told.is_written.Goals as goal

pub returns-then-is_whole-clause-asked : goal.returns-then-is_whole-clause-asked
returns-then-is_whole-clause-asked g c = asked-none (g.F.Finder.view c.args.finder.now)

pub returns-then-is_whole-clause-hit : goal.returns-then-is_whole-clause-hit
returns-then-is_whole-clause-hit g c =
    let out = c.args.job.now.output in
    let searched = c.args.job.now.searched in
    let test = test_of (g.F.Finder.view c.args.finder.now) in
    let hits = hits_of searched test (change_of c.args.text.now c.args.patch.now.change) in
    let k = c.args.hunk in
    let lt : k < length hits = omega (arith, c.requires.within, hits-long searched test c.args.text.now c.args.patch.now.change) in
    sym (written-at out hits k lt ∙ ap (λ b. b || get_or hits k false) (sym c.is_whole.ensures ∙ c.if-is_whole.true))

pub returns-clause-hit : goal.returns-clause-hit
returns-clause-hit g c =
    let out = c.args.job.now.output in
    let searched = c.args.job.now.searched in
    let test = test_of (g.F.Finder.view c.args.finder.now) in
    let hits = hits_of searched test (change_of c.args.text.now c.args.patch.now.change) in
    let k = c.args.hunk in
    let lt : k < length hits = omega (arith, c.requires.within, hits-long searched test c.args.text.now c.args.patch.now.change) in
    subst (λ x. IfOk c.is_hit_behind.result (λ b. b ≡ x)) (sym (written-at out hits k lt ∙ ap (λ b. b || get_or hits k false) (sym c.is_whole.ensures ∙ c.if-is_whole.false))) c.is_hit_behind.ensures.hit
