use Rattle.std.proofs.Common.{sym, subst}
use Rattle.plan_a.specs.Cut.{IsRange, from_of}
use Rattle.plan_a.specs.Places.{places_of}
use Rattle.plan_a.proofs.Ranges.{cut-range}
use Rattle.plan_a.proofs.text.Text.end_of.Goals as goal

pub returns : goal.returns
returns c =
    subst (IsRange c.args.self.now.bytes.items c.args.before c.args.count (from_of (places_of c.args.self.now.ends) c.args.before)) (sym c.at.ensures)
    (cut-range c.args.self.now.bytes.items (places_of c.args.self.now.ends) c.args.before c.args.count c.args.self.now.cut c.requires.some c.requires.high)
