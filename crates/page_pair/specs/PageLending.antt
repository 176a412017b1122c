-- What a page ends as, once a borrow of its bytes has ended.
use Rattle.std.specs.Prelude.{ℕ, List}
use Rattle.std.specs.List.{refill, length_refill}
use Rattle.std.specs.Borrow.{Lends, MutBor, Fml, Array, u8}
use Rattle.page_pair.specs.declared.block.Page.{Page}
use Rattle.page_pair.specs.contracts.block.Page.{the_row}

-- the page with other bytes, as many as fit it
abbrev pub with_bytes : Page → List ℕ → Page
with_bytes p bytes = record { at = p.at; count = p.count; bytes = refill p.count p.bytes bytes; counted = length_refill p.count p.bytes bytes p.counted; fits = p.fits }

-- the page ends with the last bytes behind the borrow
abbrev pub LendsBytes : MutBor Page → MutBor (List ℕ) → Fml
LendsBytes p r = Lends the_row (Array u8 0) p r (with_bytes p.now)
