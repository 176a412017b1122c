-- The short ways of a search.
use Rattle.std.proofs.Common.{◌≡◌, ◌≢◌, ℕ, zero, suc, ◌+◌, ◌-◌, ◌<◌, ◌≤◌, Bool, true, false, ◌&&◌, List, [], ◌∷◌, length, max, refl, sym, ap, ◌∙◌, arith, Option, Some, None}
use Rattle.std.specs.Prelude.{ℤ, pos, nat_lt, nat_le, ◌==◌, if◌then◌else◌}
use Rattle.std.specs.List.{find, range_with_len}
use Rattle.std.proofs.lemmas.Bool.Decides.{nat_tests}
use Rattle.line_store.specs.Store.{line_at, NoneAlike}
use Rattle.hunk_core.specs.Sides.{taken_count}
use Rattle.hunk_core.specs.declared.Side.{Side}
use Rattle.hunk_core.specs.declared.Hunk.{Hunk}
use Rattle.hunk_place.specs.Loose.{same_line}
use Rattle.hunk_place.specs.Numbered.{search_with}
use Rattle.hunk_place.specs.Order.{by_distance, from_to, distance}
use Rattle.hunk_place.specs.Passing.{IsFirstLine}
use Rattle.hunk_place.specs.Placing.{Search, fits, tries, first_fit, one_in, context, front_fuzz, back_fuzz, lowest, highest, least_fuzz}
use Rattle.hunk_place.specs.Taken.{taken_lines, side_lines}
use Rattle.hunk_place.specs.declared.first.Numbers.{Numbers}
use Rattle.hunk_place.specs.declared.pattern.Pattern.{Pattern}
use Rattle.hunk_place.proofs.FirstLemmas.{first-room}
use Rattle.hunk_place.proofs.FitLemmas.{fits-not, side-length, taken-length}
use Rattle.hunk_place.proofs.OrderLemmas.{none_by_distance}
use Rattle.hunk_place.proofs.PassLemmas.{line-differs}
use Rattle.hunk_place.proofs.ScanLemmas.{scan-none, found-above}

-- a hunk that fits at its guess stands there, where no end of the file rules
pub guess-first : (s : Search) (g : ℕ) → s.guess ≡ pos g → s.pre ≡ s.post → lowest s ≤ g → g ≤ highest s 0 → fits s.lines s.old s.loose 0 0 g ≡ true → first_fit s 0 ≡ Some g
guess-first s g guess even low high hit =
    let front : context s - s.pre ≡ 0 = omega arith in
    let back : context s - s.post ≡ 0 = omega arith in
    let z : g + 0 ≡ g = omega arith in
    let f : ℕ → Bool = fits s.lines s.old s.loose 0 0 in
    let found : find f (by_distance (distance (pos g)) (from_to (lowest s) (highest s 0))) ≡ Some (g + 0) = found-above f (lowest s) (highest s 0) g 0 (scan-none f (lowest s) (highest s 0) g) low (omega arith) (ap f z ∙ hit) in
    sym (first-room s 0 0 0 (lowest s) (highest s 0) (omega arith) (omega arith) refl refl (ap (λ m. nat_lt 0 m && (s.start == 1)) front) (ap (λ m. nat_lt 0 m) back))
    ∙ ap (λ d. find f (by_distance (distance d) (from_to (lowest s) (highest s 0)))) guess
    ∙ found ∙ ap Some z

one-none : (f : ℕ → Bool) (low high w : ℕ) → ((v : ℕ) → low ≤ v → v ≤ high → f v ≡ false) → find f (one_in low high w) ≡ None
one-none f low high w none = by (nat_le low w && nat_le w high) refl
  where
    by : (b : Bool) → (nat_le low w && nat_le w high) ≡ b → find f (if b then w ∷ [] else []) ≡ None
    by true e = let a : low ≤ w = grind (arith, nat_tests) in let z : w ≤ high = grind (arith, nat_tests) in rw (none w a z) refl
    by false e = refl

tries-by : (f : ℕ → Bool) (far : ℕ → ℕ) (low high end : ℕ) (a b : Bool) → ((v : ℕ) → low ≤ v → v ≤ high → f v ≡ false) → find f (if a then one_in low high 1 else if b then one_in low high end else by_distance far (from_to low high)) ≡ None
tries-by f far low high end true b none = one-none f low high 1 none
tries-by f far low high end false true none = one-none f low high end none
tries-by f far low high end false false none = none_by_distance far f low (suc high - low) (λ v a b. none v a (omega arith))

-- no place of the room fits, so none that is tried does
pub tries-none : (s : Search) (k : ℕ) → ((w : ℕ) → lowest s ≤ w → w ≤ highest s k → fits s.lines s.old s.loose (front_fuzz s k) (back_fuzz s k) w ≡ false) → first_fit s k ≡ None
unfolding first_fit tries
tries-none s k none = tries-by (fits s.lines s.old s.loose (front_fuzz s k) (back_fuzz s k)) (distance s.guess) (lowest s) (highest s k) (length s.lines + 1 - length s.old) (nat_lt k (context s - s.pre) && (s.start == 1)) (nat_lt k (context s - s.post)) none

-- a line that is compared with each of these fuzzes stands nowhere behind what was consumed
pub hopeless : (p : Pattern) (n : Numbers) (line : List ℕ) (lines : List (List ℕ)) (most k : ℕ) → IsFirstLine p line → n.old_count ≡ taken_count p.side p.hunk.now.body.items → p.last ≡ taken_count p.side p.hunk.now.body.items - (most - (max n.pre n.post - n.post)) → most - (max n.pre n.post - n.pre) ≤ p.front
    → NoneAlike lines line (n.consumed + 1 + p.front) (length lines + 1) → k ≤ most → first_fit (search_with lines (taken_lines p.text.now p.side p.hunk.now) p.loose n) k ≡ None
hopeless p n line lines most k first counted last front none le =
    let s : Search = search_with lines (taken_lines p.text.now p.side p.hunk.now) p.loose n in
    let long : length (taken_lines p.text.now p.side p.hunk.now) ≡ taken_count p.side p.hunk.now.body.items = taken-length p.text.now p.side p.hunk.now in
    let sides : length (side_lines p.text.now p.side p.hunk.now.body.items) ≡ taken_count p.side p.hunk.now.body.items = side-length p.text.now p.side p.hunk.now.body.items in
    let some : p.front < p.last = first.some in
    tries-none (search_with lines (taken_lines p.text.now p.side p.hunk.now) p.loose n) k (λ w low high.
    sym (fits-not p.text.now p.side p.hunk.now lines p.loose (k - (max n.pre n.post - n.pre)) (k - (max n.pre n.post - n.post)) w (p.front + 1) (omega arith) (omega arith)
    (line-differs p line lines w first (none (w + p.front) (omega arith) (omega arith)))))

pub pattern-search : (p : Pattern) (n : Numbers) (text : List ℕ) (side : Side) (h : Hunk) (loose : Bool) (lines : List (List ℕ)) (k : ℕ) → p.text.now ≡ text → p.hunk.now ≡ h → p.side ≡ side → p.loose ≡ loose → first_fit (search_with lines (taken_lines p.text.now p.side p.hunk.now) p.loose n) k ≡ first_fit (search_with lines (taken_lines text side h) loose n) k
pattern-search p n text side h loose lines k a b c d = rw (a, b, c, d) refl

pub pattern-fits : (p : Pattern) (text : List ℕ) (side : Side) (h : Hunk) (loose : Bool) (front back : ℕ) (lines : List (List ℕ)) (w : ℕ) → p.text.now ≡ text → p.hunk.now ≡ h → p.side ≡ side → p.loose ≡ loose → p.front ≡ front → fits lines (taken_lines p.text.now p.side p.hunk.now) p.loose p.front back w ≡ fits lines (taken_lines text side h) loose front back w
pattern-fits p text side h loose front back lines w a b c d e = rw (a, b, c, d, e) refl

pub least-none : (s : Search) (a n : ℕ) → ((k : ℕ) → a ≤ k → k < a + n → first_fit s k ≡ None) → least_fuzz s (range_with_len a n) ≡ None
unfolding least_fuzz
least-none s a zero none = refl
least-none s a (suc n) none = rw (none a (omega arith) (omega arith)) (least-none s (a + 1) n (λ k low high. none k (omega arith) (omega arith)))
