-- What a pair ends as, once a borrow of one of its pages has ended.
use Rattle.std.specs.Prelude.{ℕ, List}
use Rattle.std.specs.Borrow.{Lends, MutBor, Fml, Array, u8}
use Rattle.line_store.specs.declared.Half.{Half}
use Rattle.page_pair.specs.Pair.{Pair, other_half, with_page}
use Rattle.page_pair.specs.contracts.PagePair.{the_row}

-- the named page ends with the last bytes behind the borrow, and the other page as it was
abbrev pub LendsPage : MutBor Pair → Half → MutBor (List ℕ) → Fml
LendsPage p half r = Lends the_row (Array u8 0) p r (λ bytes. with_page p.now half bytes)

-- the other page ends with the last bytes behind the borrow, and the named page as it was
abbrev pub LendsOther : MutBor Pair → Half → MutBor (List ℕ) → Fml
LendsOther p half r = Lends the_row (Array u8 0) p r (λ bytes. with_page p.now (other_half half) bytes)
