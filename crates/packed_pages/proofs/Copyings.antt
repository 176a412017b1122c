-- Lines copied, one behind another.
use Rattle.std.proofs.Common.{◌≡◌, ℕ, ◌+◌, ◌-◌, ◌*◌, ◌<◌, ◌≤◌, ◌≢◌, Bool, List, [], ◌∷◌, ◌++◌, length, take, drop, replicate, max, Option, None, Some, is_some, refl, sym, ap, subst, ◌∙◌, arith, append_assoc, length-append, inl, inr}
use Rattle.std.specs.Prelude.{◌⊎◌}
use Rattle.std.proofs.lemmas.List.{append-nil, replicate-append-replicate, length-replicate}
use Rattle.std.proofs.Math.Nat.{zero-mul}
use Rattle.std.specs.List.{slice_range, flat_map}
use Rattle.std.specs.Int.{w64, to_le_bytes}
use Rattle.line_list.specs.Lines.{lines}
use Rattle.line_list.proofs.LineLemmas.{lines-end}
use Rattle.line_store.specs.declared.fault.OpenFault.{OpenFault}
use Rattle.line_store.specs.declared.fault.OpenFault.TheVariants.{Tree, Scratch, LongLine, FileTooLong, Disagree, Memory}
use Rattle.outside.specs.TreeView.{TreeView}
use Rattle.outside.specs.ScratchView.{ScratchView, ScratchPasses, overwritten}
use Rattle.page_pair.specs.declared.room.Room.{Room}
use Rattle.page_pair.specs.Records.{longest, padded}
use Rattle.page_pair.specs.Reading.{IsPart, IsWhole, IsTakeFault}
use Rattle.page_pair.specs.Room.{no_room, room_with, room_from, page_count, HasRoom}
use Rattle.page_pair.proofs.Cuts.{part-line, slice-length}
use Rattle.page_pair.proofs.LongLines.{longest-behind}
use Rattle.page_pair.proofs.Records.{over-end}
use Rattle.page_pair.proofs.Rooms.{room-append, rooms-up}
use Rattle.page_pair.proofs.Windows.{told-before}
use Rattle.packed_pages.specs.declared.layout.Layout.{Layout}
use Rattle.packed_pages.specs.declared.filling.Filling.{Filling}
use Rattle.packed_pages.specs.Packs.{packed_record, records, joined, begun, page_with, entries_from, bytes_of, pages_of}
use Rattle.packed_pages.specs.Filling.{IsReady, IsFilled, IsPacked, IsMeasuredAs}
use Rattle.packed_pages.specs.Copying.{Copies, IsLineFault, IsMisfit, IsCopyFault, IsCopied, IsEndFault, IsWritten}
use Rattle.packed_pages.proofs.Pages.{record-length}
use Rattle.packed_pages.proofs.Fillings.{fits-one, joined-one, page-flushed}

pub copies-none : (l : Layout) (told : Option (List ℕ)) (page : List ℕ) (f : Filling) (piece : List ℕ) (last : Bool) → Copies l told told page page f f piece last 0
copies-none l told page f piece last = record {
  more = [];
  cut = λ text start part. (let e : start ≡ start + 0 = omega arith in ap (λ n. lines (drop n text)) e);
  room = refl;
  fill = λ ls was. subst (λ x. IsFilled l told page f x) (sym (append-nil ls)) was;
}

pub copies-more : (l : Layout) (told now later : Option (List ℕ)) (page next third : List ℕ) (f g h : Filling) (piece : List ℕ) (last : Bool) (at end : ℕ) (line : List ℕ) → Copies l told now page next f g piece last at → IsWhole piece last at end → slice_range piece at end ≡ line → room_with l.size g.room (4 + (end - at)) ≡ h.room → ((ls : List (List ℕ)) → IsFilled l now next g ls → IsFilled l later third h (ls ++ line ∷ [])) → Copies l told later page third f h piece last end
copies-more l told now later page next third f g h piece last at end line was whole is room fill =
    let low : at < end = whole.low in
    let n : length line ≡ end - at = ap length (sym is) ∙ slice-length piece at end (omega arith) whole.high in
    record {
      more = was.more ++ line ∷ [];
      cut = λ text start part. was.cut text start part ∙ ap (λ x. was.more ++ x) (part-line text piece start last at end part whole ∙ ap (λ x. x ∷ lines (drop (start + end) text)) is) ∙ sym (append_assoc was.more (line ∷ []) (lines (drop (start + end) text)));
      room = room-append l.size f.room was.more (line ∷ []) ∙ ap (λ r. room_with l.size r (4 + length line)) was.room ∙ ap (λ n. room_with l.size g.room (4 + n)) n ∙ room;
      fill = λ ls start. subst (λ x. IsFilled l later third h x) (append_assoc ls was.more (line ∷ [])) (fill (ls ++ was.more) (was.fill ls start));
    }

-- a line that doesn't fit stands in a text that doesn't
pub copies-misfit : (l : Layout) (told now : Option (List ℕ)) (page next : List ℕ) (f g : Filling) (piece : List ℕ) (last : Bool) (at end : ℕ) → Copies l told now page next f g piece last at → IsWhole piece last at end → ((l.size < 4 + (end - at)) ⊎ (l.pages < (room_with l.size g.room (4 + (end - at))).pages)) → (text : List ℕ) (start : ℕ) → IsPart text piece start last → HasRoom l.size text start f.room → IsMisfit l (lines text)
copies-misfit l told now page next f g piece last at end was whole wide text start part room =
    let low : at < end = whole.low in
    let n : length (slice_range piece at end) ≡ end - at = slice-length piece at end (omega arith) whole.high in
    let all : lines text ≡ room.front ++ (was.more ++ slice_range piece at end ∷ lines (drop (start + end) text)) = room.split ∙ ap (λ x. room.front ++ x) (was.cut text start part ∙ ap (λ x. was.more ++ x) (part-line text piece start last at end part whole)) in
    elim wide [
      | inl long ↦ inl (
          let e : longest (lines text) ≡ longest (room.front ++ (was.more ++ slice_range piece at end ∷ lines (drop (start + end) text))) = ap longest all in
          let a : longest (was.more ++ slice_range piece at end ∷ lines (drop (start + end) text)) ≤ longest (room.front ++ (was.more ++ slice_range piece at end ∷ lines (drop (start + end) text))) = longest-behind room.front (was.more ++ slice_range piece at end ∷ lines (drop (start + end) text)) in
          let b : longest (slice_range piece at end ∷ lines (drop (start + end) text)) ≤ longest (was.more ++ slice_range piece at end ∷ lines (drop (start + end) text)) = longest-behind was.more (slice_range piece at end ∷ lines (drop (start + end) text)) in
          let c : longest (slice_range piece at end ∷ lines (drop (start + end) text)) ≡ max (length (slice_range piece at end)) (longest (lines (drop (start + end) text))) = refl in
          omega arith)
      | inr many ↦ inr (
          let e : room_from l.size no_room (lines text) ≡ room_from l.size (room_with l.size g.room (4 + (end - at))) (lines (drop (start + end) text)) =
          ap (room_from l.size no_room) all
          ∙ room-append l.size no_room room.front (was.more ++ slice_range piece at end ∷ lines (drop (start + end) text))
          ∙ ap (λ r. room_from l.size r (was.more ++ slice_range piece at end ∷ lines (drop (start + end) text))) room.is
          ∙ room-append l.size f.room was.more (slice_range piece at end ∷ lines (drop (start + end) text))
          ∙ ap (λ r. room_from l.size r (slice_range piece at end ∷ lines (drop (start + end) text))) was.room
          ∙ ap (λ n. room_from l.size (room_with l.size g.room (4 + n)) (lines (drop (start + end) text))) n in
          let f : (room_from l.size no_room (lines text)).pages ≡ (room_from l.size (room_with l.size g.room (4 + (end - at))) (lines (drop (start + end) text))).pages = ap (λ (r : Room). r.pages) e in
          let up : (room_with l.size g.room (4 + (end - at))).pages ≤ (room_from l.size (room_with l.size g.room (4 + (end - at))) (lines (drop (start + end) text))).pages = rooms-up l.size (room_with l.size g.room (4 + (end - at))) (lines (drop (start + end) text)) in
          omega arith)
    ]

pub copy-fault : (e : OpenFault) (l : Layout) (f g : Filling) (u v w : ScratchView) (n : ℕ) (piece : List ℕ) (last : Bool) → ScratchPasses u v → IsLineFault e l g v w n → (((l.size < 4 + n) ⊎ (l.pages < (room_with l.size g.room (4 + n)).pages)) → (text : List ℕ) (start : ℕ) → IsPart text piece start last → HasRoom l.size text start f.room → IsMisfit l (lines text)) → IsCopyFault e l f u w piece last
copy-fault Tree l f g u v w n piece last p h wide = h
copy-fault Scratch l f g u v w n piece last p h wide = λ small. omega (arith, h small, p.counts)
copy-fault (LongLine line length) l f g u v w n piece last p h wide = h
copy-fault (FileTooLong length) l f g u v w n piece last p h wide = h
copy-fault (Disagree want got) l f g u v w n piece last p h wide = (h.0, wide h.1)
copy-fault Memory l f g u v w n piece last p h wide = h

pub take-fault : (e : OpenFault) (l : Layout) (f : Filling) (v w : ScratchView) (t u : TreeView) (piece : List ℕ) (last : Bool) → IsCopyFault e l f v w piece last → (((text : List ℕ) (start : ℕ) → IsPart text piece start last → HasRoom l.size text start f.room → IsMisfit l (lines text)) → t.told ≡ None) → IsTakeFault e v w t u
take-fault Tree l f v w t u piece last h g = absurd h
take-fault Scratch l f v w t u piece last h g = h
take-fault (LongLine line length) l f v w t u piece last h g = h
take-fault (FileTooLong length) l f v w t u piece last h g = h
take-fault (Disagree want got) l f v w t u piece last h g = (h.0, g h.1)
take-fault Memory l f v w t u piece last h g = h

-- lines that were measured fit
pub no-misfit : (l : Layout) (ls : List (List ℕ)) → IsMeasuredAs l ls → IsMisfit l ls → ⊥
no-misfit l ls m misfit = elim misfit [
  | inl long ↦ omega (arith, m.short)
  | inr many ↦ let p : l.pages ≡ page_count (room_from l.size no_room ls) = m.pages in omega arith
]

-- the piece behind what was copied
pub copied-more : (l : Layout) (told now file : Option (List ℕ)) (page next : List ℕ) (at n : ℕ) (f g : Filling) (piece : List ℕ) (last : Bool) → IsCopied l told page at f file → Copies l told now page next f g piece last n → ((text : List ℕ) → file ≡ Some text → IsPart text piece at last) → IsCopied l now next (at + n) g file
copied-more l told now file page next at n f g piece last was more part = record {
  front = was.front ++ more.more;
  filled = more.fill was.front was.filled;
  split = λ text is. was.split text is ∙ ap (λ x. was.front ++ x) (more.cut text at (part text is)) ∙ sym (append_assoc was.front more.more (lines (drop (at + n) text)));
}

pub copied-room : (l : Layout) (told file : Option (List ℕ)) (page : List ℕ) (at : ℕ) (f : Filling) (text : List ℕ) → IsCopied l told page at f file → file ≡ Some text → HasRoom l.size text at f.room
copied-room l told file page at f text was is = record { front = was.front; split = was.split text is; is = was.filled.room }

pub copied-short : (l : Layout) (told file : Option (List ℕ)) (page : List ℕ) (at : ℕ) (f : Filling) (text : List ℕ) → IsCopied l told page at f file → file ≡ Some text → longest (lines (drop at text)) ≤ longest (lines text)
copied-short l told file page at f text was is =
    let all : longest (lines text) ≡ longest (was.front ++ lines (drop at text)) = ap longest (was.split text is) in
    let most : longest (lines (drop at text)) ≤ longest (was.front ++ lines (drop at text)) = longest-behind was.front (lines (drop at text)) in
    omega arith

pub copied-all : (l : Layout) (told file : Option (List ℕ)) (page text : List ℕ) (at : ℕ) (f : Filling) → (was : IsCopied l told page at f file) → file ≡ Some text → at ≡ length text → lines text ≡ was.front
copied-all l told file page text at f was is end = was.split text is ∙ ap (λ x. was.front ++ x) (lines-end text at end) ∙ append-nil was.front

-- what was copied is all that was measured
pub copied-count : (l : Layout) (told file : Option (List ℕ)) (page text : List ℕ) (at : ℕ) (f : Filling) → IsCopied l told page at f file → file ≡ Some text → at ≡ length text → IsMeasuredAs l (lines text) → ((l.count ≢ f.count) ⊎ (l.pages ≢ page_count f.room)) → ⊥
copied-count l told file page text at f was is end m other = elim other [
  | inl count ↦ count (m.counted ∙ ap length (copied-all l told file page text at f was is end) ∙ was.filled.counted)
  | inr pages ↦ pages (m.pages ∙ ap (λ ls. page_count (room_from l.size no_room ls)) (copied-all l told file page text at f was is end) ∙ ap page_count was.filled.room)
]

records-none : (ls : List (List ℕ)) → length (records ls) ≡ 0 → ls ≡ []
records-none [] e = refl
records-none (line ∷ ls) e =
    let a : length (packed_record line ++ records ls) ≡ length (packed_record line) + length (records ls) = length-append (packed_record line) (records ls) in
    let b : length (packed_record line) ≡ 4 + length line = record-length line in
    absurd (omega arith)

begun-some : (ls : List (List ℕ)) → (length (records ls) ≡ 0 → ⊥) → begun ls ≡ ls ∷ []
begun-some [] ne = absurd (ne refl)
begun-some (line ∷ ls) ne = refl

-- no page is begun: all are written
pub packed-all : (l : Layout) (told : Option (List ℕ)) (page : List ℕ) (f : Filling) (ls : List (List ℕ)) → f.room.filled ≡ 0 → l.pages ≡ f.room.pages → IsFilled l told page f ls → IsPacked l told ls
unfolding bytes_of
packed-all l told page f ls none pages was =
    let last : was.last ≡ [] = records-none was.last (was.filled ∙ none) in
    let zeros : 8 * (l.pages - f.room.pages) ≡ 0 = omega arith in
    record {
      pages = was.full;
      many = was.many ∙ sym pages;
      lines_ = sym (append-nil (joined was.full)) ∙ ap (λ x. joined was.full ++ x) (sym last) ∙ was.lines_;
      fits = was.fits;
      bytes = λ b is. was.bytes b is ∙ ap (λ n. entries_from 1 was.full ++ replicate n 0 ++ flat_map (page_with l.size) was.full) zeros ∙ ap (λ x. x ++ flat_map (page_with l.size) was.full) (append-nil (entries_from 1 was.full));
      are = ap (pages_of l.size) (sym (append-nil ls)) ∙ was.greedy [] ∙ ap (λ x. was.full ++ begun x) last ∙ append-nil was.full;
    }

-- the last page is written
pub packed-more : (l : Layout) (told now : Option (List ℕ)) (page : List ℕ) (f : Filling) (ls : List (List ℕ)) → (f.room.filled ≡ 0 → ⊥) → f.room.filled ≤ l.size → l.pages ≡ f.room.pages + 1 → is_some now ≡ is_some told → ((b : List ℕ) → told ≡ Some b → now ≡ Some (overwritten b (f.room.pages * 8) (to_le_bytes w64 f.first) ++ padded l.size (take f.room.filled page))) → IsFilled l told page f ls → IsPacked l now ls
unfolding bytes_of
packed-more l told now page f ls some filled pages telling written was =
    let begun_ : begun was.last ≡ was.last ∷ [] = begun-some was.last (λ e. some (sym was.filled ∙ e)) in
    let zeros : 8 * (l.pages - (f.room.pages + 1)) ≡ 0 = omega arith in
    let long : length (records was.last) ≡ f.room.filled = was.filled in
    record {
      pages = was.full ++ was.last ∷ [];
      many = length-append was.full (was.last ∷ []) ∙ ap (λ n. n + 1) was.many ∙ sym pages;
      lines_ = joined-one was.full was.last ∙ was.lines_;
      fits = fits-one l.size was.full was.last was.fits (omega arith);
      bytes = λ b is. page-flushed l told now page f ls was (omega arith) telling written b is ∙ ap (λ n. entries_from 1 (was.full ++ was.last ∷ []) ++ replicate n 0 ++ flat_map (page_with l.size) (was.full ++ was.last ∷ [])) zeros ∙ ap (λ x. x ++ flat_map (page_with l.size) (was.full ++ was.last ∷ [])) (append-nil (entries_from 1 (was.full ++ was.last ∷ [])));
      are = ap (pages_of l.size) (sym (append-nil ls)) ∙ was.greedy [] ∙ ap (λ x. was.full ++ x) begun_;
    }

pub end-fault : (e : OpenFault) (l : Layout) (f : Filling) (u v w : ScratchView) (s t : TreeView) → ScratchPasses u v → IsEndFault e l f v w → (((l.count ≢ f.count) ⊎ (l.pages ≢ page_count f.room)) → s.told ≡ None) → IsTakeFault e u w s t
end-fault Tree l f u v w s t p h g = absurd h
end-fault Scratch l f u v w s t p h g = λ small. omega (arith, h small, p.counts)
end-fault (LongLine line length) l f u v w s t p h g = h
end-fault (FileTooLong length) l f u v w s t p h g = h
end-fault (Disagree want got) l f u v w s t p h g = (h.0, g h.1)
end-fault Memory l f u v w s t p h g = h

-- entries are laid as zero bytes
pub laid-none : (told : Option (List ℕ)) → ((b : List ℕ) → told ≡ Some b → b ≡ []) → (b : List ℕ) → told ≡ Some b → b ≡ replicate (8 * 0) 0
laid-none told none b is = none b is

pub laid-more : (told now : Option (List ℕ)) (n : ℕ) → is_some now ≡ is_some told → ((b : List ℕ) → told ≡ Some b → b ≡ replicate (8 * n) 0) → ((b : List ℕ) → told ≡ Some b → now ≡ Some (overwritten b (n * 8) (to_le_bytes w64 0))) → (b : List ℕ) → now ≡ Some b → b ≡ replicate (8 * (n + 1)) 0
laid-more told now n telling was written b is =
    let a = told-before told now b telling is in
    let both : Some b ≡ Some (overwritten a.0 (n * 8) (to_le_bytes w64 0)) = sym is ∙ written a.0 a.1 in
    let same : b ≡ overwritten a.0 (n * 8) (to_le_bytes w64 0) = cc in
    let len : length a.0 ≡ n * 8 = ap length (was a.0 a.1) ∙ length-replicate (8 * n) 0 ∙ omega arith in
    let count : 8 * n + 8 ≡ 8 * (n + 1) = omega arith in
    same ∙ over-end a.0 (to_le_bytes w64 0) (n * 8) len ∙ ap (λ x. x ++ replicate 8 0) (was a.0 a.1) ∙ replicate-append-replicate (8 * n) 8 0 ∙ ap (λ k. replicate k 0) count

-- nothing is copied at the start
pub ready-none : (l : Layout) (told : Option (List ℕ)) (f : Filling) → f.room.pages ≡ 0 → f.room.filled ≡ 0 → f.count ≡ 0 → ((b : List ℕ) → told ≡ Some b → b ≡ replicate (8 * l.pages) 0) → IsReady l told f
ready-none l told f p r c laid =
    let m : f.room.pages * l.size ≡ 0 = ap (λ n. n * l.size) p ∙ zero-mul l.size in
    record {
      filled = omega arith;
      pages = omega arith;
      few = omega arith;
      behind = λ b is. ap length (laid b is) ∙ length-replicate (8 * l.pages) 0 ∙ omega arith;
    }

pub copied-none : (l : Layout) (told file : Option (List ℕ)) (page : List ℕ) (f : Filling) → f.room ≡ no_room → f.first ≡ 1 → f.count ≡ 0 → ((b : List ℕ) → told ≡ Some b → b ≡ replicate (8 * l.pages) 0) → IsCopied l told page 0 f file
unfolding pages_of
copied-none l told file page f r first count laid =
    let p : f.room.pages ≡ 0 = ap (λ (x : Room). x.pages) r in
    let n : f.room.filled ≡ 0 = ap (λ (x : Room). x.filled) r in
    let zeros : 8 * l.pages ≡ 8 * (l.pages - f.room.pages) = omega arith in
    record {
      front = [];
      filled = record {
        full = [];
        last = [];
        many = sym p;
        filled = sym n;
        counted = sym count;
        first = sym first;
        lines_ = refl;
        fits = λ i lt. absurd (omega arith);
        on = ap (λ k. take k page) n;
        bytes = λ b is. laid b is ∙ ap (λ k. replicate k 0) zeros ∙ sym (append-nil (replicate (8 * (l.pages - f.room.pages)) 0));
        greedy = λ more. refl;
        room = sym r;
      };
      split = λ text is. refl;
    }

pub written-all : (l : Layout) (told now file : Option (List ℕ)) (page : List ℕ) (at : ℕ) (f : Filling) → IsCopied l told page at f file → ((text : List ℕ) → file ≡ Some text → at ≡ length text) → l.count ≡ f.count → ((ls : List (List ℕ)) → IsFilled l told page f ls → IsPacked l now ls) → IsWritten l now file
written-all l told now file page at f was end count pages = record {
  all = was.front;
  counted = was.filled.counted ∙ sym count;
  packed = pages was.front was.filled;
  lines_ = λ text is. copied-all l told file page text at f was is (end text is);
}
