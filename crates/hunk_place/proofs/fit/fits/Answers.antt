use Rattle.std.proofs.Common.{◌≡◌, ◌+◌, ◌<◌, ◌≤◌, ℕ, List, Some, sym, ap, ◌∙◌, arith, Result}
use Rattle.hunk_place.specs.Placing.{fits}
use Rattle.hunk_core.specs.Sides.{taken_count}
use Rattle.hunk_place.specs.Taken.{taken_lines}
use Rattle.hunk_place.proofs.fit.fits.Goals as goal

pub fits_at-requires-clause-within : goal.fits_at-requires-clause-within
fits_at-requires-clause-within g c = λ lt.
    let w : (1 ≤ c.args.at + c.args.front) × (c.args.at + taken_count c.args.side c.args.hunk.now.body.items ≤ (g.S.LineStore.seen c.args.store.now).count + 1 + c.args.back) = c.requires.within (omega arith) in
    (omega arith, omega arith)
