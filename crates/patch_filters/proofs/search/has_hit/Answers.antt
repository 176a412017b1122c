use Rattle.std.proofs.Common.{◌≡◌, IfOk, subst}
use Rattle.patch_filters.specs.Grepped.{test_of}
use Rattle.patch_filters.proofs.Searching.{answers-test}
use Rattle.patch_filters.proofs.search.has_hit.Goals as goal

pub returns-clause-hit : goal.returns-clause-hit
returns-clause-hit g c =
    let v = g.F.Finder.view c.args.finder.now in
    subst (λ line. IfOk c.hits.result (λ b. b ≡ test_of v line)) c.content.ensures (answers-test v c.content.result.now c.hits.result c.requires c.hits.ensures.hit)
