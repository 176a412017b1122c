use Rattle.std.proofs.Common.{◌-◌, length, sym, ap, subst, ◌∙◌}
use Rattle.page_pair.specs.Records.{line_in}
use Rattle.page_pair.proofs.Windows.{page-length}
use Rattle.plan_b.specs.Layout.{place_on_page}
use Rattle.plan_b.specs.Spots.{IsSpot, IsRecord}
use Rattle.plan_b.proofs.HeldLemmas.{line-there}
use Rattle.plan_b.proofs.Reached.{at-spot, held-record, record-within}
use Rattle.plan_b.proofs.PlanBLineStore.line.Goals as goal

pub line_of-requires : goal.line_of-requires
line_of-requires g c =
    let s = c.args.self.now in
    let is = sym c.get.ensures ∙ c.in-Some.is in
    record-within c.page.result.now s.layout c.in-Some.field-0 c.get-in-Some.result s.held.layout
    (subst (λ page. IsRecord page s.layout c.in-Some.field-0 c.get-in-Some.result) (sym c.page.ensures.is)
    (held-record s.pair s.layout (g.C.Scratch.view s.scratch) c.args.half c.in-Some.field-0 c.get-in-Some.result (s.held.loaded c.args.half c.in-Some.field-0 is) (subst (IsSpot s.layout c.in-Some.field-0) (sym c.get-in-Some.ensures) (s.spotted c.args.half c.in-Some.field-0 is))))
    (ap length c.page.ensures.is ∙ page-length s.pair c.page.ensures.pair c.args.half ∙ sym s.held.size)

pub returns-in-Some : goal.returns-in-Some
returns-in-Some g c lines k told is =
    let s = c.args.self.now in
    let loaded = s.held.loaded c.args.half k is in
    c.line_of.ensures
    ∙ ap (line_in c.page.result.now) (ap (λ x. x.at) c.get-in-Some.ensures ∙ at-spot s.layout k _ (s.spotted c.args.half k is))
    ∙ ap (λ p. line_in p (place_on_page s.layout (k - 1))) c.page.ensures.is
    ∙ line-there s.pair s.layout (g.C.Scratch.view s.scratch) c.args.half k lines s.held.layout s.held.records loaded.page loaded.low loaded.high told
