-- Lines that are copied as they are.
use Rattle.std.proofs.Common.{◌≡◌, ℕ, zero, suc, ◌+◌, ◌-◌, ◌≤◌, List, [], ◌∷◌, ◌++◌, Bool, length, take, drop, refl, sym, ap, subst, ◌∙◌, arith, append_assoc}
use Rattle.std.specs.List.{slice_range}
use Rattle.std.proofs.lemmas.List.{take-take}
use Rattle.std.proofs.lemmas.List.Edits.{between_none, between_more}
use Rattle.std.proofs.lemmas.List.Folds.{drop_split}
use Rattle.std.proofs.lemmas.Slice.{between_is}
use Rattle.outside.specs.SinkView.{SinkView, ReceivesPart}
use Rattle.line_store.specs.Store.{line_at}
use Rattle.hunk_apply.specs.declared.put.Tail.{Tail}
use Rattle.hunk_apply.specs.Splice.{Edit, spliced_from, AreFrom}
use Rattle.hunk_apply.specs.Written.{Wrote, lines_between, join_behind}
use Rattle.hunk_apply.proofs.SpliceLemmas.{sooner, line-kept}
use Rattle.hunk_apply.proofs.WrittenLemmas.{wrote-same, part-same}

pub none-between : (lines : List (List ℕ)) (from : ℕ) (rest : List (List ℕ)) → lines_between lines from from ++ rest ≡ rest
none-between lines from rest = ap (λ r. r ++ rest) (between_none lines (from - 1))

-- one line more
pub more-between : (lines : List (List ℕ)) (from q : ℕ) (rest : List (List ℕ)) → 1 ≤ from → from ≤ q → q ≤ length lines
    → lines_between lines from q ++ (line_at lines q ∷ rest) ≡ lines_between lines from (q + 1) ++ rest
more-between lines from q rest low order high =
    let a : (q - 1) + 1 ≡ (q + 1) - 1 = omega arith in
    sym (append_assoc (lines_between lines from q) (line_at lines q ∷ []) rest)
    ∙ ap (λ r. r ++ rest) (sym (between_more lines (from - 1) (q - 1) [] (omega arith) (omega arith)) ∙ ap (slice_range lines (from - 1)) a)

-- two ranges, one behind the other
join-between : (lines : List (List ℕ)) (from mid to : ℕ) → from ≤ mid → mid ≤ to → lines_between lines from mid ++ lines_between lines mid to ≡ lines_between lines from to
join-between lines from mid to order later =
    ap (λ r. r ++ lines_between lines mid to) (between_is lines (from - 1) (mid - 1) ∙ ap (drop (from - 1)) (sym (take-take (mid - 1) (to - 1) lines (omega arith))) ∙ sym (between_is (take (to - 1) lines) (from - 1) (mid - 1)))
    ∙ ap (λ r. slice_range (take (to - 1) lines) (from - 1) (mid - 1) ++ r) (between_is lines (mid - 1) (to - 1))
    ∙ sym (drop_split (take (to - 1) lines) (from - 1) (mid - 1) (omega arith))
    ∙ sym (between_is lines (from - 1) (to - 1))

-- so many lines from one on
pub between-take : (lines : List (List ℕ)) (q n : ℕ) → 1 ≤ q → lines_between lines q (q + n) ≡ take n (drop (q - 1) lines)
between-take lines q n low = let w : q + n - 1 - (q - 1) ≡ n = omega arith in ap (λ m. take m (drop (q - 1) lines)) w

-- a range, and one behind it
pub meet-between : (lines : List (List ℕ)) (from mid to : ℕ) (more : List (List ℕ)) → from ≤ mid → mid ≤ to
    → lines_between lines from mid ++ (lines_between lines mid to ++ more) ≡ lines_between lines from to ++ more
meet-between lines from mid to more order later =
    sym (append_assoc (lines_between lines from mid) (lines_between lines mid to) more)
    ∙ ap (λ r. r ++ more) (join-between lines from mid to order later)

-- lines before all edits are kept
kept-between : (lines : List (List ℕ)) (later : List Edit) (from n : ℕ) → 1 ≤ from → from + n ≤ length lines + 1 → AreFrom (from + n) later
    → lines_between lines from (from + n) ++ spliced_from lines later (from + n) ≡ spliced_from lines later from
kept-between lines later from zero low high h =
    let z : from + 0 ≡ from = omega arith in
    ap (λ k. lines_between lines from k ++ spliced_from lines later k) z ∙ none-between lines from (spliced_from lines later from)
kept-between lines later from (suc n) low high h =
    let q : ℕ = from + n in
    let next : from + suc n ≡ (from + n) + 1 = omega arith in
    let behind : AreFrom ((from + n) + 1) later = subst (λ k. AreFrom k later) next h in
    ap (λ k. lines_between lines from k ++ spliced_from lines later k) next
    ∙ sym (more-between lines from (from + n) (spliced_from lines later ((from + n) + 1)) low (omega arith) (omega arith))
    ∙ ap (λ r. lines_between lines from (from + n) ++ r) (sym (line-kept lines later (from + n) (omega arith) behind))
    ∙ kept-between lines later from n low (omega arith) (sooner (from + n) ((from + n) + 1) later (omega arith) behind)

pub kept : (lines : List (List ℕ)) (later : List Edit) (from to : ℕ) → 1 ≤ from → from ≤ to → to ≤ length lines + 1 → AreFrom to later
    → lines_between lines from to ++ spliced_from lines later to ≡ spliced_from lines later from
kept lines later from to low order high h =
    let e : from + (to - from) ≡ to = omega arith in
    sym (ap (λ k. lines_between lines from k ++ spliced_from lines later k) e)
    ∙ kept-between lines later from (to - from) low (omega arith) (subst (λ k. AreFrom k later) (sym e) h)

pub line-copied : (u v : SinkView) (r s : Tail) (lines : List (List ℕ)) (later : List Edit) (q : ℕ) → q ≤ length lines → AreFrom (q + 1) later
    → Wrote u v r s (line_at lines q ∷ spliced_from lines later (q + 1)) (spliced_from lines later (q + 1)) → Wrote u v r s (spliced_from lines later q) (spliced_from lines later (q + 1))
line-copied u v r s lines later q le from h =
    wrote-same u v r s (line_at lines q ∷ spliced_from lines later (q + 1)) (spliced_from lines later q) (spliced_from lines later (q + 1)) (spliced_from lines later (q + 1)) (sym (line-kept lines later q le from)) refl h

pub line-part : (u v : SinkView) (is_open : Bool) (lines : List (List ℕ)) (later : List Edit) (q : ℕ) → q ≤ length lines → AreFrom (q + 1) later
    → ReceivesPart u v (join_behind is_open (line_at lines q ∷ spliced_from lines later (q + 1))) → ReceivesPart u v (join_behind is_open (spliced_from lines later q))
line-part u v is_open lines later q le from h =
    part-same u v is_open (line_at lines q ∷ spliced_from lines later (q + 1)) (spliced_from lines later q) (sym (line-kept lines later q le from)) h

-- lines up to the next edit were copied
pub copied : (u v : SinkView) (r s : Tail) (lines : List (List ℕ)) (later : List Edit) (from to : ℕ) → 1 ≤ from → from ≤ to → to ≤ length lines + 1 → AreFrom to later
    → Wrote u v r s (lines_between lines from to ++ spliced_from lines later to) (spliced_from lines later to) → Wrote u v r s (spliced_from lines later from) (spliced_from lines later to)
copied u v r s lines later from to low order high h w =
    wrote-same u v r s (lines_between lines from to ++ spliced_from lines later to) (spliced_from lines later from) (spliced_from lines later to) (spliced_from lines later to) (kept lines later from to low order high h) refl w

pub copied-part : (u v : SinkView) (is_open : Bool) (lines : List (List ℕ)) (later : List Edit) (from to : ℕ) → 1 ≤ from → from ≤ to → to ≤ length lines + 1 → AreFrom to later
    → ReceivesPart u v (join_behind is_open (lines_between lines from to ++ spliced_from lines later to)) → ReceivesPart u v (join_behind is_open (spliced_from lines later from))
copied-part u v is_open lines later from to low order high h p =
    part-same u v is_open (lines_between lines from to ++ spliced_from lines later to) (spliced_from lines later from) (kept lines later from to low order high h) p
