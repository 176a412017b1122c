use Rattle.std.proofs.Common.{◌≡◌, ◌+◌, ◌-◌, ◌*◌, ◌≤◌, ℕ, ap, ◌∙◌, arith, length}
use Rattle.plan_b.specs.Layout.{place_on_page, place_of, page_number}
use Rattle.page_pair.specs.Records.{stated}
use Rattle.plan_b.proofs.HeldLemmas.{stated-on-page}
use Rattle.page_pair.proofs.Windows.{none-unless}
use Rattle.plan_b.proofs.Reached.{page-length}
use Rattle.plan_b.proofs.loading.find_line.Goals as goal

pub returns-then-length-most-clause-cause : goal.returns-then-length-most-clause-cause
returns-then-length-most-clause-cause g c = (
  λ e. omega (arith, e, c.if-length-most.true),
  none-unless _ (λ b told.
      let l = c.args.layout in
      let at : ℕ = place_on_page l (c.args.k - 1) in
      let o : ℕ = page_number l (c.args.k - 1) * l.size in
      let fits : stated b (place_of l (c.args.k - 1)) + 4 ≤ l.width = (c.requires.held.records b told).fits (c.args.k - 1) (omega (arith, c.requires.low, c.requires.high)) in
      let within : place_on_page l (c.args.k - 1) + l.width ≤ l.size = (rw c.place_on_page.ensures.is at c.place_on_page.ensures.within) in
      let low : 4 ≤ l.width = c.requires.held.layout.low in
      let same : c.stated_length-length.result ≡ stated b (place_of l (c.args.k - 1)) =
      c.stated_length-length.ensures
      ∙ ap (λ n. stated c.page.result.now n) c.place_on_page.ensures.is
      ∙ ap (λ p. stated p (place_on_page l (c.args.k - 1))) (c.page.ensures.is ∙ c.in-Ok.ensures.page b (c.fetch_page.ensures.told ∙ told))
      ∙ stated-on-page l.size (page_number l (c.args.k - 1) * l.size) (place_on_page l (c.args.k - 1)) b (omega (arith, within, low)) in
      omega (arith, fits, low, same, c.if-length-most.true)),
)

pub returns-in-Err : goal.returns-in-Err
returns-in-Err g c = record {
  size = c.fetch_page.ensures.size;
  other = c.fetch_page.ensures.other;
  loaded = tt;
  passes = c.fetch_page.ensures.passes;
  told = c.fetch_page.ensures.told;
  reads = c.fetch_page.ensures.reads;
  still = c.fetch_page.ensures.still;
  cause = c.in-Err.ensures.cause;
}

pub returns-then-length-most-clause-loaded : goal.returns-then-length-most-clause-loaded
returns-then-length-most-clause-loaded g c = tt

pub returns-then-length-most-clause-size : goal.returns-then-length-most-clause-size
returns-then-length-most-clause-size g c = c.fetch_page.ensures.size

pub returns-then-length-most-clause-other : goal.returns-then-length-most-clause-other
returns-then-length-most-clause-other g c = c.fetch_page.ensures.other

pub returns-then-length-most-clause-passes : goal.returns-then-length-most-clause-passes
returns-then-length-most-clause-passes g c = c.fetch_page.ensures.passes

pub returns-then-length-most-clause-told : goal.returns-then-length-most-clause-told
returns-then-length-most-clause-told g c = c.fetch_page.ensures.told

pub returns-then-length-most-clause-reads : goal.returns-then-length-most-clause-reads
returns-then-length-most-clause-reads g c = c.fetch_page.ensures.reads

pub returns-then-length-most-clause-still : goal.returns-then-length-most-clause-still
returns-then-length-most-clause-still g c = c.fetch_page.ensures.still

pub returns-clause-cause : goal.returns-clause-cause
returns-clause-cause g c = tt

pub returns-clause-size : goal.returns-clause-size
returns-clause-size g c = c.fetch_page.ensures.size

pub returns-clause-other : goal.returns-clause-other
returns-clause-other g c = c.fetch_page.ensures.other

pub returns-clause-passes : goal.returns-clause-passes
returns-clause-passes g c = c.fetch_page.ensures.passes

pub returns-clause-told : goal.returns-clause-told
returns-clause-told g c = c.fetch_page.ensures.told

pub returns-clause-reads : goal.returns-clause-reads
returns-clause-reads g c = c.fetch_page.ensures.reads

pub returns-clause-still : goal.returns-clause-still
returns-clause-still g c = c.fetch_page.ensures.still

pub fetch_page-requires-clause-held : goal.fetch_page-requires-clause-held
fetch_page-requires-clause-held g c = c.requires.held

pub fetch_page-requires-clause-low : goal.fetch_page-requires-clause-low
fetch_page-requires-clause-low g c = c.requires.low

pub fetch_page-requires-clause-high : goal.fetch_page-requires-clause-high
fetch_page-requires-clause-high g c = c.requires.high

pub stated_length-length-requires : goal.stated_length-length-requires
stated_length-length-requires g c = omega (arith, c.place_on_page.ensures.within, c.requires.held.layout.low, c.requires.held.size, c.in-Ok.ensures.size, ap length c.page.ensures.is, page-length c.fetch_page.new.pair c.args.half c.page.ensures.pair)
