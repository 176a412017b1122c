-- Lines copied, one behind another.
use Rattle.std.proofs.Common.{◌≡◌, ℕ, zero, suc, ◌+◌, ◌-◌, ◌*◌, ◌/◌, ◌%◌, ◌<◌, ◌≤◌, ◌≢◌, Bool, false, eqb, List, [], ◌∷◌, ◌++◌, length, get_or, take, drop, max, min, length-drop, Option, None, Some, refl, sym, ap, subst, ◌∙◌, arith, append_assoc}
use Rattle.std.proofs.lemmas.List.{append-nil, take-take, drop-take}
use Rattle.std.specs.List.{slice_range, flat_map}
use Rattle.std.proofs.Math.Nat.{zero-mul}
use Rattle.outside.specs.Calls.{IsUntouched}
use Rattle.outside.proofs.Views.{rises_then}
use Rattle.line_list.proofs.LineLemmas.{lines-end}
use Rattle.std.specs.Int.{div_ceil}
use Rattle.std.proofs.lemmas.Nat.{div-mul-add, mod-mul-add}
use Rattle.outside.specs.TreeView.{TreeView}
use Rattle.line_list.specs.Lines.{lines, with_first}
use Rattle.page_pair.proofs.LongLines.{longest-behind}
use Rattle.plan_b.specs.declared.layout.Layout.{Layout}
use Rattle.plan_b.specs.declared.filling.Filling.{Filling}
use Rattle.page_pair.specs.Records.{longest, record_of}
use Rattle.plan_b.specs.Pages.{front_pages, pages_of_width}
use Rattle.page_pair.specs.Reading.{IsPart, IsWhole, IsOpen}
use Rattle.plan_b.specs.Filling.{IsFilled, IsReady}
use Rattle.plan_b.specs.Layout.{IsLayout}
use Rattle.plan_b.specs.Copying.{Copies, IsLineFault, IsCopyFault, IsCopied, IsWritten, IsEndFault}
use Rattle.page_pair.specs.Reading.{IsTakeFault}
use Rattle.outside.specs.ScratchView.{ScratchView, ScratchPasses}
use Rattle.line_store.specs.declared.fault.OpenFault.{OpenFault}
use Rattle.line_store.specs.declared.fault.OpenFault.TheVariants.{Tree, Scratch, LongLine, FileTooLong, Disagree, Memory}
use Rattle.page_pair.proofs.Cuts.{part-line, slice-length}

pub copies-none : (l : Layout) (told : Option (List ℕ)) (page : List ℕ) (f : Filling) (piece : List ℕ) (last : Bool) → Copies l told told page page f f piece last 0
copies-none l told page f piece last = record {
  more = [];
  cut = λ text start part. (let e : start ≡ start + 0 = omega arith in ap (λ n. lines (drop n text)) e);
  fill = λ ls was. subst (λ x. IsFilled l told page f x) (sym (append-nil ls)) was;
}

pub copies-more : (l : Layout) (told now later : Option (List ℕ)) (page next third : List ℕ) (f g h : Filling) (piece : List ℕ) (last : Bool) (at end : ℕ) (line : List ℕ) → Copies l told now page next f g piece last at → IsWhole piece last at end → slice_range piece at end ≡ line → ((ls : List (List ℕ)) → IsFilled l now next g ls → IsFilled l later third h (ls ++ line ∷ [])) → Copies l told later page third f h piece last end
copies-more l told now later page next third f g h piece last at end line was whole is fill = record {
  more = was.more ++ line ∷ [];
  cut = λ text start part. was.cut text start part ∙ ap (λ x. was.more ++ x) (part-line text piece start last at end part whole ∙ ap (λ x. x ∷ lines (drop (start + end) text)) is) ∙ sym (append_assoc was.more (line ∷ []) (lines (drop (start + end) text)));
  fill = λ ls start. subst (λ x. IsFilled l later third h x) (append_assoc ls was.more (line ∷ [])) (fill (ls ++ was.more) (was.fill ls start));
}

pub copies-wide : (l : Layout) (told now : Option (List ℕ)) (page next : List ℕ) (f g : Filling) (piece : List ℕ) (last : Bool) (at end : ℕ) → Copies l told now page next f g piece last at → IsWhole piece last at end → l.width < 4 + (end - at) → (text : List ℕ) (start : ℕ) → IsPart text piece start last → l.width < 4 + longest (lines (drop start text))
copies-wide l told now page next f g piece last at end was whole wide text start part =
    let low : at < end = whole.low in
    let n : length (slice_range piece at end) ≡ end - at = slice-length piece at end (omega arith) whole.high in
    let all : longest (lines (drop start text)) ≡ longest (was.more ++ slice_range piece at end ∷ lines (drop (start + end) text)) = ap longest (was.cut text start part ∙ ap (λ x. was.more ++ x) (part-line text piece start last at end part whole)) in
    let most : longest (slice_range piece at end ∷ lines (drop (start + end) text)) ≤ longest (was.more ++ slice_range piece at end ∷ lines (drop (start + end) text)) = longest-behind was.more (slice_range piece at end ∷ lines (drop (start + end) text)) in
    let one : longest (slice_range piece at end ∷ lines (drop (start + end) text)) ≡ max (length (slice_range piece at end)) (longest (lines (drop (start + end) text))) = refl in
    omega arith

pub copy-fault : (e : OpenFault) (l : Layout) (u v w : ScratchView) (n : ℕ) (piece : List ℕ) (last : Bool) → ScratchPasses u v → IsLineFault e l v w n → (l.width < 4 + n → (text : List ℕ) (start : ℕ) → IsPart text piece start last → l.width < 4 + longest (lines (drop start text))) → IsCopyFault e l u w piece last
copy-fault Tree l u v w n piece last p h wide = h
copy-fault Scratch l u v w n piece last p h wide = λ small. omega (arith, h small, p.counts)
copy-fault (LongLine line length) l u v w n piece last p h wide = h
copy-fault (FileTooLong length) l u v w n piece last p h wide = h
copy-fault (Disagree want got) l u v w n piece last p h wide = (h.0, wide h.1)
copy-fault Memory l u v w n piece last p h wide = h

pub take-fault : (e : OpenFault) (l : Layout) (v w : ScratchView) (t u : TreeView) (piece : List ℕ) (last : Bool) → IsCopyFault e l v w piece last → (((text : List ℕ) (start : ℕ) → IsPart text piece start last → l.width < 4 + longest (lines (drop start text))) → t.told ≡ None) → IsTakeFault e v w t u
take-fault Tree l v w t u piece last h f = absurd h
take-fault Scratch l v w t u piece last h f = h
take-fault (LongLine line length) l v w t u piece last h f = h
take-fault (FileTooLong length) l v w t u piece last h f = h
take-fault (Disagree want got) l v w t u piece last h f = (h.0, f h.1)
take-fault Memory l v w t u piece last h f = h

-- the piece behind what was copied
pub copied-more : (l : Layout) (told now file : Option (List ℕ)) (page next : List ℕ) (at n : ℕ) (f g : Filling) (piece : List ℕ) (last : Bool) → IsCopied l told page at f file → Copies l told now page next f g piece last n → ((text : List ℕ) → file ≡ Some text → IsPart text piece at last) → IsCopied l now next (at + n) g file
copied-more l told now file page next at n f g piece last was more part = record {
  front = was.front ++ more.more;
  filled = more.fill was.front was.filled;
  split = λ text is. was.split text is ∙ ap (λ x. was.front ++ x) (more.cut text at (part text is)) ∙ sym (append_assoc was.front more.more (lines (drop (at + n) text)));
}

-- the lines that are left are no longer than the longest
pub copied-short : (l : Layout) (told file : Option (List ℕ)) (page : List ℕ) (at : ℕ) (f : Filling) (text : List ℕ) → IsCopied l told page at f file → file ≡ Some text → longest (lines (drop at text)) ≤ longest (lines text)
copied-short l told file page at f text was is =
    let all : longest (lines text) ≡ longest (was.front ++ lines (drop at text)) = ap longest (was.split text is) in
    let most : longest (lines (drop at text)) ≤ longest (was.front ++ lines (drop at text)) = longest-behind was.front (lines (drop at text)) in
    omega arith

-- so many pages as there are, once the last one is written
pub pages-more : (l : Layout) (ls : List (List ℕ)) (p r : ℕ) → IsLayout l → length ls ≡ p * l.per_page + r → r < l.per_page → 0 < r → front_pages l.size l.width l.per_page ls (p + 1) ≡ pages_of_width l.size l.width ls
pages-more l ls p r is n lt some =
    let d : length ls / l.per_page ≡ p = ap (λ k. k / l.per_page) n ∙ div-mul-add p l.per_page r lt in
    let m : length ls % l.per_page ≡ r = ap (λ k. k % l.per_page) n ∙ mod-mul-add p l.per_page r lt in
    let c : p + 1 ≡ length ls / l.per_page + min 1 (length ls % l.per_page) = omega arith in
    ap (front_pages l.size l.width l.per_page ls) c ∙ ap (λ q. front_pages l.size l.width q ls (div_ceil (length ls) q)) is.per_page

pub pages-all : (l : Layout) (ls : List (List ℕ)) (p r : ℕ) → IsLayout l → length ls ≡ p * l.per_page + r → r < l.per_page → r ≡ 0 → front_pages l.size l.width l.per_page ls p ≡ pages_of_width l.size l.width ls
pages-all l ls p r is n lt none =
    let d : length ls / l.per_page ≡ p = ap (λ k. k / l.per_page) n ∙ div-mul-add p l.per_page r lt in
    let m : length ls % l.per_page ≡ r = ap (λ k. k % l.per_page) n ∙ mod-mul-add p l.per_page r lt in
    let c : p ≡ length ls / l.per_page + min 1 (length ls % l.per_page) = omega arith in
    ap (front_pages l.size l.width l.per_page ls) c ∙ ap (λ q. front_pages l.size l.width q ls (div_ceil (length ls) q)) is.per_page

pub ready-none : (l : Layout) (told : Option (List ℕ)) (f : Filling) → f.pages ≡ 0 → f.records ≡ 0 → 0 < l.per_page → ((b : List ℕ) → told ≡ Some b → b ≡ []) → IsReady l told f
ready-none l told f p r some none =
    let m : f.pages * l.per_page ≡ 0 = ap (λ n. n * l.per_page) p ∙ zero-mul l.per_page in
    record {
      some = omega arith;
      few = omega arith;
      behind = λ b is. ap length (none b is) ∙ sym (ap (λ n. n * l.size) p ∙ zero-mul l.size);
    }

pub copied-none : (l : Layout) (told file : Option (List ℕ)) (page : List ℕ) (f : Filling) → IsLayout l → f.pages ≡ 0 → f.records ≡ 0 → ((b : List ℕ) → told ≡ Some b → b ≡ []) → IsCopied l told page 0 f file
unfolding front_pages
copied-none l told file page f is p r none =
    let m : f.pages * l.per_page ≡ 0 = ap (λ n. n * l.per_page) p ∙ zero-mul l.per_page in
    let w : f.records * l.width ≡ 0 = ap (λ n. n * l.width) r ∙ zero-mul l.width in
    let low : 4 ≤ l.width = is.low in
    record {
      front = [];
      filled = record {
        counted = omega arith;
        narrow = omega arith;
        last = ap (λ n. take n page) w ∙ sym (ap (λ n. flat_map (record_of l.width) (drop n [])) m);
        front = λ b told. none b told ∙ sym (ap (front_pages l.size l.width l.per_page []) p);
      };
      split = λ text is. refl;
    }

-- what was copied is all
pub written-all : (l : Layout) (told now file : Option (List ℕ)) (page : List ℕ) (at : ℕ) (f : Filling) → IsCopied l told page at f file → ((text : List ℕ) → file ≡ Some text → at ≡ length text) → l.count ≡ f.pages * l.per_page + f.records → ((ls : List (List ℕ)) → IsFilled l told page f ls → (b : List ℕ) → now ≡ Some b → b ≡ pages_of_width l.size l.width ls) → IsWritten l now file
written-all l told now file page at f was end count pages = record {
  all = was.front;
  counted = was.filled.counted ∙ sym count;
  narrow = was.filled.narrow;
  pages = pages was.front was.filled;
  lines_ = λ text is. was.split text is ∙ ap (λ x. was.front ++ x) (lines-end text at (end text is)) ∙ append-nil was.front;
}

pub end-fault : (e : OpenFault) (l : Layout) (f : Filling) (u v w : ScratchView) (s t : TreeView) → ScratchPasses u v → IsEndFault e l f v w → (l.count ≢ f.pages * l.per_page + f.records → s.told ≡ None) → IsTakeFault e u w s t
end-fault Tree l f u v w s t p h g = absurd h
end-fault Scratch l f u v w s t p h g = λ small. omega (arith, h small, p.counts)
end-fault (LongLine line length) l f u v w s t p h g = h
end-fault (FileTooLong length) l f u v w s t p h g = h
end-fault (Disagree want got) l f u v w s t p h g = (h.0, g h.1)
end-fault Memory l f u v w s t p h g = h

-- a file that was measured so has as many lines
pub copied-count : (l : Layout) (told file : Option (List ℕ)) (page text : List ℕ) (at : ℕ) (f : Filling) → IsCopied l told page at f file → file ≡ Some text → at ≡ length text → length (lines text) ≡ f.pages * l.per_page + f.records
copied-count l told file page text at f was is end =
    ap length (was.split text is ∙ ap (λ x. was.front ++ x) (lines-end text at end) ∙ append-nil was.front) ∙ was.filled.counted
