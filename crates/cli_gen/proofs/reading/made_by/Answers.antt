use Rattle.std.proofs.Common.{refl}
use Rattle.cli_gen.proofs.reading.made_by.Goals as goal

pub returns-in-Gen : goal.returns-in-Gen
returns-in-Gen c = record {
  job = rw c.in-Gen.is refl;
  size = rw c.in-Gen.is at c.requires;
  refused = tt;
}
