-- A file that was taken.
use Rattle.std.proofs.Common.{◌≡◌, ℕ, ◌^◌, ◌<◌, List, length, Option, None, Some, is_some, refl, sym, ap, subst, ◌∙◌, arith, inl, inr}
use Rattle.std.specs.Int.{div_ceil}
use Rattle.std.specs.Option.{option_map}
use Rattle.std.proofs.lemmas.Bool.{false≢true, cases_eq}
use Rattle.std.proofs.lemmas.List.{nil_from_length}
use Rattle.std.proofs.lemmas.Option.{none-some}
use Rattle.line_list.specs.Lines.{lines}
use Rattle.outside.specs.ScratchView.{ScratchView}
use Rattle.line_store.specs.declared.Half.{Half}
use Rattle.line_store.specs.declared.halves.Halves.{Halves}
use Rattle.line_store.specs.Halves.{half_of}
use Rattle.line_store.specs.Store.{Seen}
use Rattle.line_store.specs.Taking.{first_long, Takes, IsEmpty}
use Rattle.page_pair.specs.Pair.{Pair}
use Rattle.page_pair.proofs.Told.{told-something, admitted-is}
use Rattle.plan_b.specs.declared.layout.Layout.{Layout}
use Rattle.plan_b.specs.Pages.{width_of, pages, pages_of_width, front_pages}
use Rattle.plan_b.specs.Layout.{IsLayout, decoded, lines_told, told-none, told-some}
use Rattle.plan_b.specs.Held.{seen_of, IsHeld}
use Rattle.plan_b.specs.Measuring.{IsMeasuredAs}
use Rattle.plan_b.specs.Copying.{IsWritten}
use Rattle.plan_b.proofs.Decoding.{pages-records, pages-decoded}

pub empty-seen : (l : Layout) (halves : Halves) (v : ScratchView) → l.count ≡ 0 → IsEmpty (seen_of l halves v)
empty-seen l halves v e = record { told = told-none l v.told e; count = e }

-- pages by the number of records that a page holds
pages-by : (l : Layout) (ls : List (List ℕ)) (b : List ℕ) → IsLayout l → b ≡ pages_of_width l.size l.width ls → b ≡ front_pages l.size l.width l.per_page ls (div_ceil (length ls) l.per_page)
pages-by l ls b is e = e ∙ ap (λ q. front_pages l.size l.width q ls (div_ceil (length ls) q)) (sym is.per_page)

pub written-held : (pair : Pair) (l : Layout) (halves : Halves) (v : ScratchView) (file : Option (List ℕ)) → IsLayout l → l.size ≡ pair.size → ((h : Half) → half_of halves h ≡ None) → IsWritten l v.told file → IsHeld pair l halves v
written-held pair l halves v file is size none was = record {
  layout = is;
  size = size;
  records = λ b told. pages-records l was.all b is was.narrow (sym was.counted) (pages-by l was.all b is (was.pages b told));
  loaded = λ h k held. absurd (none-some k (sym (none h) ∙ held));
}

decoded-told : (l : Layout) (told : Option (List ℕ)) (b : List ℕ) (ls : List (List ℕ)) → told ≡ Some b → decoded l b ≡ ls → l.count ≡ length ls → lines_told l told ≡ Some ls
decoded-told l told b ls is e n = elim (cases_eq l.count 0) [
  | inl none ↦ told-none l told none ∙ ap Some (sym (nil_from_length ls (omega arith)))
  | inr some ↦ told-some l told (omega arith) ∙ ap (option_map (decoded l)) is ∙ ap Some e
]

pub written-takes : (before : Seen) (l : Layout) (halves : Halves) (v : ScratchView) (file : Option (List ℕ)) (text : List ℕ) → IsLayout l → l.size ≡ before.size → is_some v.told ≡ is_some before.scratch → IsWritten l v.told file → file ≡ Some text → IsMeasuredAs l (lines text) → length text < 2 ^ 40 → Takes before (seen_of l halves v) text
written-takes before l halves v file text is size telling was known m short = record {
  admitted = admitted-is before.size text short (subst (λ n. first_long n (lines text) ≡ None) size m.short);
  count = m.counted;
  told = λ some.
      let b = told-something v.told (telling ∙ some) in
      decoded-told l v.told b.0 (lines text) b.1
      (pages-decoded l was.all b.0 is was.narrow (sym was.counted) (pages-by l was.all b.0 is (was.pages b.0 b.1)) ∙ sym (was.lines_ text known))
      m.counted;
}

pub written-scratch : (l : Layout) (told now file : Option (List ℕ)) (text : List ℕ) (size : ℕ) → l.size ≡ size → is_some now ≡ is_some told → IsWritten l now file → file ≡ Some text → IsMeasuredAs l (lines text) → now ≡ option_map (λ _. pages size (lines text)) told
written-scratch l None None file text size e telling was known m = refl
written-scratch l None (Some b) file text size e telling was known m = absurd (false≢true (sym telling))
written-scratch l (Some a) None file text size e telling was known m = absurd (false≢true telling)
written-scratch l (Some a) (Some b) file text size e telling was known m =
    let all : b ≡ pages_of_width l.size l.width was.all = was.pages b refl in
    ap Some (all ∙ ap (pages_of_width l.size l.width) (sym (was.lines_ text known)) ∙ ap (λ w. pages_of_width l.size w (lines text)) m.fits ∙ ap (λ s. pages_of_width s (width_of (lines text)) (lines text)) e)
