-- Lines measured one after another.
use Rattle.std.proofs.Common.{◌≡◌, ℕ, ◌+◌, ◌-◌, ◌<◌, ◌≤◌, Bool, List, [], ◌∷◌, ◌++◌, length, drop, max, refl, sym, ap, subst, ◌∙◌, arith, append_assoc, append-nil, length-append, Some}
use Rattle.std.specs.List.{slice_range}
use Rattle.line_list.specs.Lines.{lines}
use Rattle.line_list.proofs.LineLemmas.{lines-end}
use Rattle.line_store.specs.declared.fault.OpenFault.TheVariants.{LongLine}
use Rattle.line_store.specs.Taking.{long_line}
use Rattle.page_pair.specs.Records.{longest}
use Rattle.page_pair.specs.Reading.{IsPart, IsWhole, IsMeasured}
use Rattle.page_pair.proofs.Cuts.{part-line, slice-length}
use Rattle.page_pair.proofs.LongLines.{longest-more, first-long}

pub measured-none : (text : List ℕ) → IsMeasured text 0 0 0
measured-none text = record { front = []; split = refl; counted = refl; widest = refl }

-- one line more
pub measured-more : (text : List ℕ) (at end count most : ℕ) (line : List ℕ) → IsMeasured text at count most → lines (drop at text) ≡ line ∷ lines (drop end text) → IsMeasured text end (count + 1) (max most (length line))
measured-more text at end count most line m first = record {
  front = m.front ++ line ∷ [];
  split = m.split ∙ ap (λ l. m.front ++ l) first ∙ sym (append_assoc m.front (line ∷ []) (lines (drop end text)));
  counted = length-append m.front (line ∷ []) ∙ ap (λ n. n + 1) m.counted;
  widest = longest-more m.front line ∙ ap (λ n. max n (length line)) m.widest;
}

-- the next line is too long
pub measured-long : (text : List ℕ) (at end count most size : ℕ) (line : List ℕ) → IsMeasured text at count most → lines (drop at text) ≡ line ∷ lines (drop end text) → most ≤ size - 4 → size - 4 < length line → long_line size (lines text) ≡ Some (LongLine (count + 1) (length line))
measured-long text at end count most size line m first short long =
    let w : longest m.front ≡ most = m.widest in
    ap (long_line size) (m.split ∙ ap (λ l. m.front ++ l) first)
    ∙ first-long size m.front line (lines (drop end text)) (omega arith) long
    ∙ ap (λ n. Some (LongLine (n + 1) (length line))) m.counted

-- all lines
pub measured-all : (text : List ℕ) (at count most : ℕ) → IsMeasured text at count most → at ≡ length text → (count ≡ length (lines text)) × (most ≡ longest (lines text))
measured-all text at count most m e =
    let all : lines text ≡ m.front = m.split ∙ ap (λ l. m.front ++ l) (lines-end text at e) ∙ append-nil m.front in
    (sym m.counted ∙ ap length (sym all), sym m.widest ∙ ap longest (sym all))

-- a whole line of a piece more
pub measured-step : (text piece : List ℕ) (start : ℕ) (last : Bool) (at end : ℕ) (p n m : ℕ) (q c w : ℕ) → IsPart text piece start last → IsWhole piece last at end → p ≡ start + at → q ≡ p + (end - at) → c ≡ n + 1 → w ≡ max m (end - at) → IsMeasured text p n m → IsMeasured text q c w
measured-step text piece start last at end p n m q c w part whole e f g h was =
    let low : at < end = whole.low in
    let high : end ≤ length piece = whole.high in
    let far : start + end ≡ q = omega arith in
    let len : max m (length (slice_range piece at end)) ≡ w = ap (max m) (slice-length piece at end (omega arith) high) ∙ sym h in
    let line : lines (drop p text) ≡ slice_range piece at end ∷ lines (drop (start + end) text) = ap (λ k. lines (drop k text)) e ∙ part-line text piece start last at end part whole in
    let next : IsMeasured text (start + end) (n + 1) (max m (length (slice_range piece at end))) = measured-more text p (start + end) n m (slice_range piece at end) was line in
    subst (λ k. IsMeasured text k c w) far (subst (λ k. IsMeasured text (start + end) k w) (sym g) (subst (λ k. IsMeasured text (start + end) (n + 1) k) len next))

-- a whole line of a piece is too long
pub measured-stop : (text piece : List ℕ) (start : ℕ) (last : Bool) (at end : ℕ) (p n m : ℕ) (most line size : ℕ) → IsPart text piece start last → IsWhole piece last at end → p ≡ start + at → m ≤ most → most < size → line ≡ n + 1 → size ≡ end - at → IsMeasured text p n m → long_line (most + 4) (lines text) ≡ Some (LongLine line size)
measured-stop text piece start last at end p n m most line size part whole e short long f g was =
    let low : at < end = whole.low in
    let high : end ≤ length piece = whole.high in
    let len : length (slice_range piece at end) ≡ size = slice-length piece at end (omega arith) high ∙ sym g in
    let first : lines (drop p text) ≡ slice_range piece at end ∷ lines (drop (start + end) text) = ap (λ k. lines (drop k text)) e ∙ part-line text piece start last at end part whole in
    let four : most + 4 - 4 ≡ most = omega arith in
    measured-long text p (start + end) n m (most + 4) (slice_range piece at end) was first (omega arith) (omega arith)
    ∙ ap (λ k. Some (LongLine k (length (slice_range piece at end)))) (sym f) ∙ ap (λ k. Some (LongLine line k)) len
