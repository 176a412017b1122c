-- A file that was taken.
use Rattle.std.proofs.Common.{◌≡◌, ℕ, ◌^◌, ◌<◌, List, length, Option, None, Some, is_some, refl, sym, ap, ◌∙◌, arith, inl, inr}
use Rattle.std.specs.Option.{option_map}
use Rattle.std.proofs.lemmas.Bool.{false≢true, cases_eq}
use Rattle.std.proofs.lemmas.List.{nil_from_length}
use Rattle.std.proofs.lemmas.Option.{none-some}
use Rattle.line_list.specs.Lines.{lines}
use Rattle.outside.specs.ScratchView.{ScratchView}
use Rattle.line_store.specs.declared.Half.{Half}
use Rattle.line_store.specs.Store.{Seen}
use Rattle.line_store.specs.Taking.{Takes}
use Rattle.page_pair.specs.Pair.{Pair}
use Rattle.page_pair.proofs.LongLines.{none-long}
use Rattle.page_pair.proofs.Told.{told-something, admitted-is}
use Rattle.packed_pages.specs.declared.layout.Layout.{Layout}
use Rattle.packed_pages.specs.declared.places.Places.{Places}
use Rattle.packed_pages.specs.Packs.{joined, bytes_of, packs}
use Rattle.packed_pages.specs.Layout.{IsLayout, HasPacks, decoded, lines_told, told-none, told-some}
use Rattle.packed_pages.specs.Held.{seen_of, place_of, IsHeld}
use Rattle.packed_pages.specs.Filling.{IsMeasuredAs}
use Rattle.packed_pages.specs.Copying.{IsWritten}
use Rattle.packed_pages.proofs.HeldLemmas.{packs-made, pages-are, packs-decoded}

written-packs : (l : Layout) (told file : Option (List ℕ)) (b : List ℕ) → IsLayout l → IsWritten l told file → told ≡ Some b → HasPacks l b
written-packs l told file b is was told_ = packs-made l b was.packed.pages is (was.packed.bytes b told_) was.packed.many (ap length was.packed.lines_ ∙ was.counted) was.packed.fits

written-decoded : (l : Layout) (told file : Option (List ℕ)) (b : List ℕ) → IsLayout l → (was : IsWritten l told file) → told ≡ Some b → decoded l b ≡ was.all
written-decoded l told file b is was told_ =
    packs-decoded l b (written-packs l told file b is was told_)
    ∙ ap joined (pages-are l b was.packed.pages is (was.packed.bytes b told_) was.packed.many (ap length was.packed.lines_ ∙ was.counted) was.packed.fits)
    ∙ was.packed.lines_

pub written-held : (pair : Pair) (l : Layout) (places : Places) (v : ScratchView) (file : Option (List ℕ)) → IsLayout l → l.size ≡ pair.size → ((h : Half) → place_of places h ≡ None) → IsWritten l v.told file → IsHeld pair l places v
written-held pair l places v file is size none was = record {
  layout = is;
  size = size;
  packs = λ some b told. written-packs l v.told file b is was told;
  loaded = λ h p held. absurd (none-some p (sym (none h) ∙ held));
}

decoded-told : (l : Layout) (told : Option (List ℕ)) (b : List ℕ) (ls : List (List ℕ)) → told ≡ Some b → decoded l b ≡ ls → l.count ≡ length ls → lines_told l told ≡ Some ls
decoded-told l told b ls is e n = elim (cases_eq l.count 0) [
  | inl none ↦ told-none l told none ∙ ap Some (sym (nil_from_length ls (omega arith)))
  | inr some ↦ told-some l told (omega arith) ∙ ap (option_map (decoded l)) is ∙ ap Some e
]

pub written-takes : (before : Seen) (l : Layout) (places : Places) (v : ScratchView) (file : Option (List ℕ)) (text : List ℕ) → IsLayout l → l.size ≡ before.size → is_some v.told ≡ is_some before.scratch → IsWritten l v.told file → file ≡ Some text → IsMeasuredAs l (lines text) → length text < 2 ^ 40 → Takes before (seen_of l places v) text
written-takes before l places v file text is size telling was known m short = record {
  admitted = admitted-is before.size text short (none-long before.size (lines text) (omega (arith, m.short)));
  count = m.counted;
  told = λ some.
      let b = told-something v.told (telling ∙ some) in
      decoded-told l v.told b.0 (lines text) b.1 (written-decoded l v.told file b.0 is was b.1 ∙ sym (was.lines_ text known)) m.counted;
}

pub written-scratch : (l : Layout) (told now file : Option (List ℕ)) (text : List ℕ) (size : ℕ) → l.size ≡ size → is_some now ≡ is_some told → IsWritten l now file → file ≡ Some text → now ≡ option_map (λ _. packs size (lines text)) told
written-scratch l None None file text size e telling was known = refl
written-scratch l None (Some b) file text size e telling was known = absurd (false≢true (sym telling))
written-scratch l (Some a) None file text size e telling was known = absurd (false≢true telling)
written-scratch l (Some a) (Some b) file text size e telling was known =
    ap Some (was.packed.bytes b refl ∙ ap (bytes_of l.size) (sym was.packed.are) ∙ ap (packs l.size) (sym (was.lines_ text known)) ∙ ap (λ s. packs s (lines text)) e)
