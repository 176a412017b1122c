-- Hunks that break no rule, and whose lines have no inner line feed, turned and moved.
use Rattle.std.proofs.Common.{◌≡◌, ℕ, zero, suc, ◌≤◌, Bool, true, false, cond, eqb, List, [], ◌∷◌, ◌++◌, length, map, drop, Option, None, Some, refl, sym, ap, subst, ◌∙◌, arith}
use Rattle.std.specs.Prelude.{ℤ, pos, negsuc}
use Rattle.std.specs.List.{AllByRecursion, flat_map, range_with_len}
use Rattle.std.proofs.lemmas.Bool.Decides.{nat_tests}
use Rattle.std.proofs.lemmas.List.{length-map}
use Rattle.std.proofs.lemmas.List.Concat.{flat_map-cons}
use Rattle.std.proofs.lemmas.Bool.{or_parts}
use Rattle.hunk_core.specs.declared.check.BadHunk.{BadHunk}
use Rattle.hunk_core.specs.declared.check.BadHunk.TheVariants.{NoLines, Start, Sum, InnerEnd}
use Rattle.hunk_core.specs.declared.Side.{Side}
use Rattle.hunk_core.specs.declared.Side.TheVariants.{Forward, Reversed}
use Rattle.hunk_core.specs.declared.Verdict.{Verdict}
use Rattle.hunk_core.specs.declared.Verdict.TheVariants.{Untried, Ignored, Nowhere, At}
use Rattle.hunk_core.specs.PlainHunk.{PlainHunk, old_lines, new_lines}
use Rattle.hunk_core.specs.Rules.{starts_at_zero, runs_over, lacks_inner_end, first_broken, HasNoInnerFeed}
use Rattle.hunk_core.specs.Turned.{swapped_line, turned}
use Rattle.hunk_core.proofs.SideLemmas.{swapped-lines}
use Rattle.hunk_core.proofs.RuleLemmas.{Kept, no-rule}
use Rattle.hunk_core.proofs.TurnedLemmas.{swapped-feeds}
use Rattle.reject_text.specs.Starts.{Row, net, least_start, greatest_start, put_between, moved_start, moved}
use Rattle.reject_text.specs.Again.{AreUnbroken, AreClean}
use Rattle.reject_text.specs.Rejects.{rows_of, if_nowhere, first_reject, reject_at, rejects}

-- ---- the four rules, side by side
passed-by : (x : BadHunk) (a : Bool) (others : Option BadHunk) → cond a (Some x) others ≡ None → (a ≡ false) × (others ≡ None)
passed-by x true others e = absurd (cc)
passed-by x false others e = (refl, e)

kept : (h : PlainHunk) → first_broken h ≡ None → Kept h
kept h e =
    let a = passed-by NoLines _ _ e in
    let b = passed-by Start _ _ a.1 in
    let c = passed-by Sum _ _ b.1 in
    let d = passed-by InnerEnd _ _ c.1 in
    let begins = or_parts _ _ b.0 in
    let fits = or_parts _ _ c.0 in
    let ends = or_parts _ _ d.0 in
    record { some = a.0; old_begins = begins.0; new_begins = begins.1; old_fits = fits.0; new_fits = fits.1; old_ends = ends.0; new_ends = ends.1 }

unbroken : (h : PlainHunk) → Kept h → first_broken h ≡ None
unbroken h k = no-rule _ _ _ _ _ _ _ _ _ _ _ k.some k.old_begins k.new_begins k.old_fits k.new_fits k.old_ends k.new_ends

-- ---- a hunk taken from the other side

turned-kept : (side : Side) (h : PlainHunk) → Kept h → Kept (turned side h)
turned-kept Forward h k = k
turned-kept Reversed h k =
    let olds : old_lines (map swapped_line h.body) ≡ new_lines h.body = swapped-lines Forward h.body in
    let news : new_lines (map swapped_line h.body) ≡ old_lines h.body = swapped-lines Reversed h.body in
    record {
      some = ap (λ n. eqb n 0) (length-map h.body swapped_line) ∙ k.some;
      old_begins = ap (starts_at_zero h.new_start) olds ∙ k.new_begins;
      new_begins = ap (starts_at_zero h.old_start) news ∙ k.old_begins;
      old_fits = ap (runs_over h.new_start) olds ∙ k.new_fits;
      new_fits = ap (runs_over h.old_start) news ∙ k.old_fits;
      old_ends = ap lacks_inner_end olds ∙ k.new_ends;
      new_ends = ap lacks_inner_end news ∙ k.old_ends;
    }

-- ---- a moved start

between : (low high : ℕ) (z : ℤ) → low ≤ high → (low ≤ put_between low high z) × (put_between low high z ≤ high)
between low high (negsuc n) le = (omega arith, le)
between low high (pos n) le = (grind (arith, nat_tests), grind (arith, nat_tests))

in-range : (start : ℕ) (net : ℤ) (side : List (List ℕ)) → starts_at_zero start side ≡ false → runs_over start side ≡ false → (least_start (length side) ≤ moved_start start net (length side)) × (moved_start start net (length side) ≤ greatest_start (length side))
in-range start net side begins fits = between (least_start (length side)) (greatest_start (length side)) _ (grind (arith, nat_tests))

start-kept : (start : ℕ) (net : ℤ) (side : List (List ℕ)) → starts_at_zero start side ≡ false → runs_over start side ≡ false → (starts_at_zero (moved_start start net (length side)) side ≡ false) × (runs_over (moved_start start net (length side)) side ≡ false)
start-kept start net side begins fits = by (moved_start start net (length side)) (in-range start net side begins fits)
  where
    by : (s : ℕ) → (least_start (length side) ≤ s) × (s ≤ greatest_start (length side)) → (starts_at_zero s side ≡ false) × (runs_over s side ≡ false)
    by s (low, high) = (grind (arith, nat_tests), grind (arith, nat_tests))

moved-kept : (net : ℤ) (h : PlainHunk) → Kept h → Kept (moved net h)
moved-kept net h k =
    let olds = start-kept h.old_start net (old_lines h.body) k.old_begins k.old_fits in
    let news = start-kept h.new_start net (new_lines h.body) k.new_begins k.new_fits in
    record { some = k.some; old_begins = olds.0; new_begins = news.0; old_fits = olds.1; new_fits = news.1; old_ends = k.old_ends; new_ends = k.new_ends }

-- ---- all that are written

-- what holds of a hunk holds of it turned and moved
record Stays (P : PlainHunk → Type 0) : Type 0 where
  turns : (side : Side) (h : PlainHunk) → P h → P (turned side h)
  moves : (net : ℤ) (h : PlainHunk) → P h → P (moved net h)

all-drop : {X : Type 0} (P : X → Type 0) (n : ℕ) (xs : List X) → AllByRecursion P xs → AllByRecursion P (drop n xs)
all-drop P zero xs all = all
all-drop P (suc n) [] all = tt
all-drop P (suc n) (x ∷ xs) all = all-drop P n xs all.1

all-append : {X : Type 0} (P : X → Type 0) (xs ys : List X) → AllByRecursion P xs → AllByRecursion P ys → AllByRecursion P (xs ++ ys)
all-append P [] ys all also = also
all-append P (x ∷ xs) ys all also = (all.0, all-append P xs ys all.1 also)

all-pieces : {X Y : Type 0} (P : Y → Type 0) (f : X → List Y) → ((x : X) → AllByRecursion P (f x)) → (xs : List X) → AllByRecursion P (flat_map f xs)
all-pieces P f each [] = tt
all-pieces P f each (x ∷ xs) = subst (AllByRecursion P) (sym (flat_map-cons f x xs)) (all-append P (f x) (flat_map f xs) (each x) (all-pieces P f each xs))

module _ (P : PlainHunk → Type 0) (stays : Stays P) where
  rows-keep : (side : Side) (hs : List PlainHunk) (vs : List Verdict) → AllByRecursion P hs → AllByRecursion (λ (row : Row). P row.0) (rows_of side hs vs)
  rows-keep side [] vs all = tt
  rows-keep side (h ∷ hs) [] all = tt
  rows-keep side (h ∷ hs) (v ∷ vs) all = (stays.turns side h all.0, rows-keep side hs vs all.1)

  one-keeps : (v : Verdict) (h : PlainHunk) → P h → AllByRecursion P (if_nowhere v h)
  one-keeps Untried h e = tt
  one-keeps Ignored h e = tt
  one-keeps Nowhere h e = (e, tt)
  one-keeps (At line fuzz offset) h e = tt

  first-keeps : (n : ℤ) (rows : List Row) → AllByRecursion (λ (row : Row). P row.0) rows → AllByRecursion P (first_reject n rows)
  first-keeps n [] all = tt
  first-keeps n (row ∷ rows) all = one-keeps row.1 (moved n row.0) (stays.moves n row.0 all.0)

  rejects-keep : (side : Side) (hs : List PlainHunk) (vs : List Verdict) → AllByRecursion P hs → AllByRecursion P (rejects (rows_of side hs vs))
  unfolding rejects
  rejects-keep side hs vs all =
      let rows : List Row = rows_of side hs vs in
      all-pieces P (reject_at rows) (λ i. first-keeps _ (drop i rows) (all-drop (λ (row : Row). P row.0) i rows (rows-keep side hs vs all))) (range_with_len 0 (length rows))

pub rejects-unbroken : (side : Side) (hs : List PlainHunk) (vs : List Verdict) → AreUnbroken hs → AreUnbroken (rejects (rows_of side hs vs))
rejects-unbroken side hs vs all =
    rejects-keep (λ h. first_broken h ≡ None)
    (record { turns = λ s h e. unbroken (turned s h) (turned-kept s h (kept h e)); moves = λ n h e. unbroken (moved n h) (moved-kept n h (kept h e)) })
    side hs vs all

clean-turned : (side : Side) (h : PlainHunk) → AllByRecursion HasNoInnerFeed h.body → AllByRecursion HasNoInnerFeed (turned side h).body
clean-turned Forward h all = all
clean-turned Reversed h all = swapped-feeds h.body all

pub rejects-clean : (side : Side) (hs : List PlainHunk) (vs : List Verdict) → AreClean hs → AreClean (rejects (rows_of side hs vs))
rejects-clean side hs vs all = rejects-keep (λ h. AllByRecursion HasNoInnerFeed h.body) (record { turns = clean-turned; moves = λ n h e. e }) side hs vs all
