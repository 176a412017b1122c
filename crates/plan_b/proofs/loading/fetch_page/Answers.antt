use Rattle.std.proofs.Common.{◌+◌, ◌-◌, ◌*◌, ◌≤◌, length, sym, subst, arith, refl, inl, inr, ◌∙◌, ◌^◌, ◌<◌, Some, ap}
use Rattle.plan_b.proofs.HeldLemmas.{page-kept}
use Rattle.outside.specs.ScratchView.{scratch_passes_none}
use Rattle.std.specs.Prelude.{OnOk}
use Rattle.std.proofs.lemmas.Bool.{false≢true}
use Rattle.plan_b.specs.Held.{HoldsPage}
use Rattle.plan_b.proofs.Layouts.{number-fits}
use Rattle.plan_b.proofs.loading.fetch_page.Goals as goal

pub holds_page-requires-clause-low : goal.holds_page-requires-clause-low
holds_page-requires-clause-low g c k is = (c.requires.held.loaded c.args.half k is).low

pub returns-then-holds_page : goal.returns-then-holds_page
returns-then-holds_page g c = record {
  size = refl;
  other = λ h ne. refl;
  page = λ b told. page-kept c.args.pair.now c.args.layout c.args.halves (g.C.Scratch.view c.args.scratch.now) c.args.half _ c.requires.held (rw c.page_number-page.ensures.is at (c.holds_page.ensures.0 c.if-holds_page.true)) b told;
  passes = scratch_passes_none _;
  told = refl;
  reads = inl refl;
  still = λ has. refl;
  cause = tt;
}

pub read_page-requires-clause-whole : goal.read_page-requires-clause-whole
read_page-requires-clause-whole g c b told =
    let w = (c.requires.held.records b told).whole (c.args.k - 1) (omega arith) in
    subst (λ n. n * c.args.layout.size + c.args.layout.size ≤ length b) (sym c.page_number-page.ensures.is) w

pub returns : goal.returns
returns g c = record {
  size = c.read_page.ensures.size;
  other = c.read_page.ensures.other;
  page = subst (λ j. OnOk c.read_page.result (HoldsPage c.read_page.new.pair c.args.layout (g.C.Scratch.view c.read_page.new.scratch) c.args.half j)) c.page_number-page.ensures.is c.read_page.ensures.page;
  passes = c.read_page.ensures.passes;
  told = c.read_page.ensures.told;
  reads = inr c.read_page.ensures.reads;
  still = λ e. absurd (false≢true (sym c.if-holds_page.false ∙ c.holds_page.ensures.1 (e ∙ ap Some (sym c.page_number-page.ensures.is))));
  cause = c.read_page.ensures.cause;
}

pub read_page-requires-clause-size : goal.read_page-requires-clause-size
read_page-requires-clause-size g c = c.requires.held.size

pub read_page-requires-clause-fits : goal.read_page-requires-clause-fits
read_page-requires-clause-fits g c = subst (λ n. n * c.args.layout.size + c.args.layout.size < 2 ^ 63) (sym c.page_number-page.ensures.is) (number-fits c.args.layout (c.args.k - 1) c.requires.held.layout (omega (arith, c.requires.low, c.requires.high)))
