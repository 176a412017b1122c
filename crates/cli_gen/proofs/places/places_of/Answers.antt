use Rattle.cli_gen.proofs.FileNames.{places_more}
use Rattle.std.proofs.Common.{◌≡◌, ℕ, subst, arith}
use Rattle.cli_gen.specs.Preparing.{ArePlaces}
use Rattle.cli_gen.proofs.places.places_of.Goals as goal

pub loop-done-preserved : goal.loop-done-preserved
loop-done-preserved c = places_more c.loop-done.places.items c.loop-done.done c.in_ok-place.place c.push.new.self.items c.loop-done.invariant c.in_ok-place.ensures.name c.in_ok-place.ensures.temp c.in_ok-push.ensures.items

pub returns : goal.returns
returns c = let all : c.loop-done.done ≡ c.args.count = omega (arith, c.loop-done-test.false, c.loop-done.auto.done-end) in subst (λ (n : ℕ). ArePlaces c.loop-done.places.items n) all c.loop-done.invariant

pub overflow_add-done : goal.overflow_add-done
overflow_add-done c = record { fits = omega (arith, c.loop-done-test.true, c.ranges.count.fits) }
