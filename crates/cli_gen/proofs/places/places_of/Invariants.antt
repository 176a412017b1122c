use Rattle.cli_gen.specs.Preparing.{ArePlaces}
use Rattle.cli_gen.proofs.places.places_of.Given as goal

abbrev pub invariant-loop-done : goal.invariant-loop-done
invariant-loop-done l = ArePlaces l.places.items l.done
