use Rattle.packed_pages.proofs.Packings.{joined-pages, packed-pages}
use Rattle.packed_pages.proofs.laws.packing_laws.Goals as goal

pub returns : goal.returns
returns c = record {
  order = λ size ls. joined-pages size ls;
  packed = λ size ls short. packed-pages size ls short;
}
