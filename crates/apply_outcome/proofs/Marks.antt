-- The marks, verdicts and rows of the first file patches of a set, as the next one gets its own.
use Rattle.std.proofs.Common.{◌≡◌, ℕ, zero, suc, ◌+◌, ◌<◌, ◌≤◌, List, [], ◌∷◌, ◌++◌, length, map, take, drop, get_or, set, All, refl, sym, ◌∙◌, ap, subst, arith, add-one}
use Rattle.std.proofs.Math.Seq.{take-add}
use Rattle.std.proofs.lemmas.List.{take-take, drop-take, length-map, map_push, take_more, get_or_default, drop_at}
use Rattle.std.proofs.lemmas.List.Elements.{All-nil, All-cons, All-head, All-tail, All-get_or}
use Rattle.std.proofs.lemmas.List.Sums.{sum_by-cons, sum_by_push}
use Rattle.std.specs.List.{zip}
use Rattle.hunk_core.specs.declared.Verdict.{Verdict}
use Rattle.read_file_patch.specs.declared.FilePatch.{FilePatch}
use Rattle.hunk_core.specs.PlainHunk.{hunk_of}
use Rattle.read_file_patch.specs.declared.Change.{Change}
use Rattle.read_file_patch.specs.declared.Change.TheVariants.{Hunks, Script}
use Rattle.read_file_patch.specs.PlainPatch.{row_count, hunk_count, change_of}
use Rattle.patch_options.specs.PlainJob.{PlainOptions}
use Rattle.patch_set.specs.declared.set.Row.{Row}
use Rattle.patch_set.specs.SetView.{SetView, hunks_in, with_row}
use Rattle.apply_task.specs.Contexts.{PastFilePatch}
use Rattle.apply_outcome.specs.Outcome.{mark_of}
use Rattle.apply_task.specs.Ready.{alone}
use Rattle.apply_outcome.specs.Ready.{AreNumbered, mark_in, marks, rows_in, turn_at}

-- ---- where verdicts lie

-- a file patch ends there or in front
abbrev pub EndsWithin : ℕ → FilePatch → Type 0
EndsWithin n p = p.first_verdict + row_count p.change ≤ n

numbered-take : (before k : ℕ) (ps : List FilePatch) → AreNumbered before ps → AreNumbered before (take k ps)
numbered-take before zero ps is = tt
numbered-take before (suc k) [] is = tt
numbered-take before (suc k) (p ∷ ps) is = (is.0, numbered-take (before + row_count p.change) k ps is.1)

pub numbered-first : (before k : ℕ) (ps : List FilePatch) (p : FilePatch) → AreNumbered before ps → k < length ps → p ≡ get_or ps k p → p.first_verdict ≡ before + hunks_in (take k ps)
numbered-first before k [] p is lt at = absurd (omega arith)
numbered-first before zero (q ∷ ps) p is lt at = ap (λ (x : FilePatch). x.first_verdict) at ∙ is.0 ∙ omega arith
numbered-first before (suc k) (q ∷ ps) p is lt at =
    let rest : p.first_verdict ≡ before + row_count q.change + hunks_in (take k ps) = numbered-first (before + row_count q.change) k ps p is.1 (omega (arith, lt)) at in
    let more : hunks_in (q ∷ take k ps) ≡ row_count q.change + hunks_in (take k ps) = sum_by-cons (λ (x : FilePatch). row_count x.change) q (take k ps) in
    omega (arith, rest, more)

numbered-within : (before n : ℕ) (ps : List FilePatch) → AreNumbered before ps → before + hunks_in ps ≤ n → All (EndsWithin n) ps
numbered-within before n [] is le = All-nil (EndsWithin n)
numbered-within before n (p ∷ ps) is le =
    let more : hunks_in (p ∷ ps) ≡ row_count p.change + hunks_in ps = sum_by-cons (λ (x : FilePatch). row_count x.change) p ps in
    All-cons (EndsWithin n) p ps (omega (arith, is.0, more, le)) (numbered-within (before + row_count p.change) n ps is.1 (omega (arith, more, le)))

hunks-next : (k : ℕ) (ps : List FilePatch) (p : FilePatch) → k < length ps → p ≡ get_or ps k p → hunks_in (take (k + 1) ps) ≡ hunks_in (take k ps) + row_count p.change
hunks-next k ps p lt at =
    ap (λ (l : List FilePatch). hunks_in l) (take_more ps k p lt ∙ ap (λ (x : FilePatch). take k ps ++ x ∷ []) (sym at))
    ∙ sum_by_push (λ (q : FilePatch). row_count q.change) (take k ps) p

-- verdicts in front stay
rows-front : (vs ws : List Verdict) (n : ℕ) (p : FilePatch) → EndsWithin n p → take n ws ≡ take n vs → rows_in ws p ≡ rows_in vs p
rows-front vs ws n p le same =
    let m = row_count p.change in
    let k = p.first_verdict in
    let front : take (k + m) ws ≡ take (k + m) vs = sym (take-take (k + m) n ws le) ∙ ap (λ (l : List Verdict). take (k + m) l) same ∙ take-take (k + m) n vs le in
    sym (drop-take k m ws) ∙ ap (λ (l : List Verdict). drop k l) front ∙ drop-take k m vs

pub verdicts-next : (vs ws : List Verdict) (k : ℕ) (ps : List FilePatch) (p : FilePatch) → AreNumbered 0 ps → k < length ps → p ≡ get_or ps k p → take p.first_verdict ws ≡ take p.first_verdict vs
    → take (hunks_in (take (k + 1) ps)) ws ≡ take (hunks_in (take k ps)) vs ++ rows_in ws p
verdicts-next vs ws k ps p is lt at same =
    let first : p.first_verdict ≡ hunks_in (take k ps) = numbered-first 0 k ps p is lt at ∙ omega arith in
    ap (λ n. take n ws) (hunks-next k ps p lt at ∙ ap (λ n. n + row_count p.change) (sym first))
    ∙ take-add p.first_verdict (row_count p.change) ws
    ∙ ap (λ (l : List Verdict). l ++ rows_in ws p) (same ∙ ap (λ n. take n vs) first)

-- ---- marks

zip-next : (k : ℕ) (ps : List FilePatch) (rs : List Row) (p : FilePatch) (r : Row) → k < length ps → length rs ≡ length ps → p ≡ get_or ps k p → zip (take (suc k) ps) (set rs k r) ≡ zip (take k ps) rs ++ (p, r) ∷ []
zip-next k [] rs p r lt long at = absurd (omega arith)
zip-next k (q ∷ ps) [] p r lt long at = absurd (omega (arith, long))
zip-next zero (q ∷ ps) (s ∷ rs) p r lt long at = ap (λ (x : FilePatch). (x, r) ∷ []) (sym at)
zip-next (suc k) (q ∷ ps) (s ∷ rs) p r lt long at = ap (λ (l : List (FilePatch × Row)). (q, s) ∷ l) (zip-next k ps rs p r (omega (arith, lt)) (omega (arith, long)) at)

-- marks of file patches whose verdicts stay
marks-kept : (o : PlainOptions) (v : SetView) (vs ws : List Verdict) (n : ℕ) (ps : List FilePatch) (rs : List Row) → All (EndsWithin n) ps → take n ws ≡ take n vs
    → map (mark_in o v ws) (zip ps rs) ≡ map (mark_in o v vs) (zip ps rs)
marks-kept o v vs ws n [] rs within same = refl
marks-kept o v vs ws n (p ∷ ps) [] within same = refl
marks-kept o v vs ws n (p ∷ ps) (r ∷ rs) within same =
    let rows : rows_in ws p ≡ rows_in vs p = rows-front vs ws n p (All-head (EndsWithin n) p ps within) same in
    ap (λ (l : List Verdict). mark_of (alone o v p) r l ∷ map (mark_in o v ws) (zip ps rs)) rows
    ∙ ap (λ (l : List PastFilePatch). mark_in o v vs (p, r) ∷ l) (marks-kept o v vs ws n ps rs (All-tail (EndsWithin n) p ps within) same)

-- where only verdicts behind them change
marks-front : (o : PlainOptions) (v : SetView) (k n : ℕ) (vs ws : List Verdict) → AreNumbered 0 v.patches → hunks_in (take k v.patches) ≤ n → take n ws ≡ take n vs → marks o v k ws ≡ marks o v k vs
unfolding marks
marks-front o v k n vs ws is le same =
    marks-kept o v vs ws n (take k v.patches) v.rows (numbered-within 0 n (take k v.patches) (numbered-take 0 k v.patches is) (omega (arith, le))) same

-- so the verdicts in front of those of the next one tell as much
pub marks-before : (o : PlainOptions) (v : SetView) (k : ℕ) (p : FilePatch) (vs front : List Verdict) → AreNumbered 0 v.patches → k < length v.patches → p ≡ get_or v.patches k p → front ≡ take p.first_verdict vs → marks o v k front ≡ marks o v k vs
marks-before o v k p vs front is lt at same =
    let first = numbered-first 0 k v.patches p is lt at in
    marks-front o v k p.first_verdict vs front is (omega (arith, first)) (ap (λ (l : List Verdict). take p.first_verdict l) same ∙ take-take p.first_verdict p.first_verdict vs (omega arith))

pub mark-alone : (o : PlainOptions) (v : SetView) (k : ℕ) (vs : List Verdict) (p : FilePatch) (r : Row) (l : List Verdict) → mark_of (alone o v p) r l ≡ mark_of (turn_at o v k vs p) r l
unfolding mark_of
mark-alone o v k vs p r l = refl

pub marks-none : (o : PlainOptions) (v : SetView) (vs : List Verdict) → marks o v 0 vs ≡ []
unfolding marks
marks-none o v vs = refl

pub marks-next : (o : PlainOptions) (v : SetView) (k : ℕ) (p : FilePatch) (r : Row) (vs ws : List Verdict) → AreNumbered 0 v.patches → k < length v.patches → length v.rows ≡ length v.patches → p ≡ get_or v.patches k p → take p.first_verdict ws ≡ take p.first_verdict vs
    → marks o (with_row v k r) (k + 1) ws ≡ marks o v k vs ++ mark_of (turn_at o v k vs p) r (rows_in ws p) ∷ []
unfolding marks
marks-next o v k p r vs ws is lt long at same =
    let first : p.first_verdict ≡ hunks_in (take k v.patches) = numbered-first 0 k v.patches p is lt at ∙ omega arith in
    let within : All (EndsWithin p.first_verdict) (take k v.patches) = numbered-within 0 p.first_verdict (take k v.patches) (numbered-take 0 k v.patches is) (omega (arith, first)) in
    ap (λ n. map (mark_in o v ws) (zip (take n v.patches) (set v.rows k r))) (add-one k)
    ∙ ap (λ (l : List (FilePatch × Row)). map (mark_in o v ws) l) (zip-next k v.patches v.rows p r lt long at)
    ∙ map_push (mark_in o v ws) (zip (take k v.patches) v.rows) (p, r)
    ∙ ap (λ (l : List PastFilePatch). l ++ mark_in o v ws (p, r) ∷ []) (marks-kept o v vs ws p.first_verdict (take k v.patches) v.rows within same)
    ∙ ap (λ (m : PastFilePatch). map (mark_in o v vs) (zip (take k v.patches) v.rows) ++ m ∷ []) (mark-alone o v k vs p r (rows_in ws p))

-- ---- the place of a file patch among the verdicts

pub rows-counted : (text : List ℕ) (change : Change) → hunk_count (change_of text change) ≡ row_count change
rows-counted text (Hunks hs) = length-map hs.items (hunk_of text)
rows-counted text (Script s) = refl

pub place-at : (vs : List Verdict) (ps : List FilePatch) (k : ℕ) (p : FilePatch) → AreNumbered 0 ps → k < length ps → p ≡ get_or ps k p → length vs ≡ hunks_in ps → p.first_verdict + row_count p.change ≤ length vs
place-at vs ps k p is lt at long =
    let n = length vs in
    let all : All (EndsWithin n) ps = numbered-within 0 n ps is (omega (arith, long)) in
    subst (λ (x : FilePatch). EndsWithin n x) (sym at) (All-get_or (EndsWithin n) ps k p lt all)

pub same-patch : (ps : List FilePatch) (k : ℕ) (p q : FilePatch) → k < length ps → p ≡ get_or ps k p → q ≡ get_or ps k q → q ≡ p
same-patch ps k p q lt here there = there ∙ get_or_default ps k q p lt ∙ sym here

pub all-first : (ps : List FilePatch) (k : ℕ) (p : FilePatch) (n : ℕ) → AreNumbered 0 ps → k < length ps → p ≡ get_or ps k p → p.first_verdict ≤ n → All (EndsWithin n) (take k ps)
all-first ps k p n is lt at le =
    let first = numbered-first 0 k ps p is lt at in
    numbered-within 0 n (take k ps) (numbered-take 0 k ps is) (omega (arith, first, le))

-- the verdicts behind a front of that length
pub rows-last : (front rest : List Verdict) (p : FilePatch) → length front ≡ p.first_verdict → rows_in (front ++ rest) p ≡ take (row_count p.change) rest
rows-last front rest p long = ap (λ (l : List Verdict). take (row_count p.change) l) (drop_at front rest p.first_verdict long)

pub patch-there : (ps : List FilePatch) (k : ℕ) → k < length ps → (p : FilePatch) × (p ≡ get_or ps k p)
patch-there [] k lt = absurd (omega arith)
patch-there (p ∷ ps) zero lt = (p, refl)
patch-there (p ∷ ps) (suc k) lt = patch-there ps k (omega (arith, lt))
