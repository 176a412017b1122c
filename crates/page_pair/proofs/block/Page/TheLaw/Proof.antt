-- A `&` to a page is made where one to its bytes is.
use denote.Builtin.{u8}
use denote.Array.{Array, Array-row_laws}
use denote.Param.Shared.{copy_shared}
use denote.Shares.{Shares-Array}
use denote.Struct.Field.{RawPtr-field, usize-field, u8-field}
use denote.Struct.Laws.{RawPtr-copy, usize-copy, u8-copy}
use denote.Struct.Lending.{lent_at_shr_laws, Lends-lies, of_Lends}
use Rattle.page_pair.specs.contracts.block.Page as page
use Rattle.page_pair.proofs.block.Page.TheLaw.Statement.{statement}

pub shares : statement
shares =
    let byte = copy_shared u8-field u8-copy in
    of_Lends page.struct page.the_codes page.the_heap page.the_lent (λ p _. lent_at_shr_laws (Array u8 p.count) (Array-row_laws u8 byte.shr_laws p.count) p.at p.bytes)
    (copy_shared RawPtr-field RawPtr-copy, (copy_shared usize-field usize-copy, tt))
    (λ M 𝓤 𝓛 p _. Lends-lies 𝓛 (Array u8 p.count) page.the_row.lives p.at p.bytes (Shares-Array 𝓛 u8 tt p.count page.the_row.lives (byte.shares M 𝓤 𝓛) p.bytes))
