-- What a pair is once one of its pages was given other bytes.
use Rattle.std.proofs.Common.{◌≡◌, ℕ, List, refl}
use Rattle.line_store.specs.declared.Half.{Half}
use Rattle.line_store.specs.declared.Half.TheVariants.{First, Second}
use Rattle.page_pair.specs.Pair.{Pair, other_half, page_of, with_page}

pub size-stays : (p : Pair) (h : Half) (bytes : List ℕ) → (with_page p (other_half h) bytes).size ≡ p.size
size-stays p First bytes = refl
size-stays p Second bytes = refl

pub page-stays : (p : Pair) (h : Half) (bytes : List ℕ) → page_of (with_page p (other_half h) bytes) h ≡ page_of p h
page-stays p First bytes = refl
page-stays p Second bytes = refl
