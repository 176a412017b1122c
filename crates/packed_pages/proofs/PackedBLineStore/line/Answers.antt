use Rattle.std.proofs.Common.{ap, ◌∙◌, sym}
use Rattle.page_pair.specs.Records.{line_in}
use Rattle.packed_pages.proofs.HeldLemmas.{line-lent}
use Rattle.packed_pages.proofs.PackedBLineStore.line.Goals as goal

pub returns-in-Some : goal.returns-in-Some
returns-in-Some g c lines k told is =
    let s = c.args.self.now in
    c.line_of.ensures
    ∙ ap (λ p. line_in p c.in-Some.place.at) c.page.ensures.is
    ∙ line-lent s.pair s.layout s.places (g.C.Scratch.view s.scratch) c.args.half c.in-Some.place k lines s.held (sym c.get.ensures ∙ c.in-Some.is) is told
