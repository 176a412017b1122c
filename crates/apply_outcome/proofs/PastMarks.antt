-- The marks of the file patches before one.
use Rattle.std.proofs.Common.{◌≡◌, ◌+◌, ◌<◌, ◌≤◌, ◌||◌, ℕ, List, length, get_or, take, drop, map, Bool, true, false, None, min, refl, sym, ◌∙◌, ap, subst, arith, length-take, take-append-drop}
use Rattle.std.proofs.lemmas.List.{get_or-map, get_or-take, length-map, take_all}
use Rattle.std.proofs.lemmas.List.Elements.{All-get_or}
use Rattle.std.proofs.lemmas.List.Folds.{list_any_more, list_any-append}
use Rattle.std.proofs.lemmas.Slice.Zip.{get_or-zip, length-zip}
use Rattle.std.specs.List.{list_any, zip}
use Rattle.hunk_core.specs.declared.Verdict.{Verdict}
use Rattle.read_file_patch.specs.declared.FilePatch.{FilePatch}
use Rattle.read_file_patch.specs.PlainPatch.{row_count}
use Rattle.patch_options.specs.PlainJob.{PlainOptions}
use Rattle.patch_set.specs.declared.set.Row.{Row}
use Rattle.patch_set.specs.SetView.{SetView}
use Rattle.apply_task.specs.Contexts.{PastFilePatch}
use Rattle.apply_outcome.specs.Ready.{HasVerdicts, IsFit, IsReady, mark_in, marks}

module _ (o : PlainOptions) (v : SetView) (count : ℕ) (verdicts : List Verdict) (within : count ≤ length v.patches) where
  -- the verdicts of one of the first file patches are there
  pub verdicts_at : (k : ℕ) (p : FilePatch) → k < count → p ≡ get_or v.patches k p → HasVerdicts v count verdicts → p.first_verdict + row_count p.change ≤ length verdicts
  verdicts_at k p low is has =
      let front : length (take count v.patches) ≡ min count (length v.patches) = length-take count v.patches in
      let here : get_or (take count v.patches) k p ≡ p = get_or-take count v.patches k p low ∙ sym is in
      subst (λ (x : FilePatch). x.first_verdict + row_count x.change ≤ length verdicts) here (All-get_or (λ (x : FilePatch). x.first_verdict + row_count x.change ≤ length verdicts) (take count v.patches) k p (omega arith) has)

  module _ (rows : length v.rows ≡ length v.patches) where
    -- its mark
    pub mark_at : (k : ℕ) (p : FilePatch) (r : Row) (m : PastFilePatch) → k < count → p ≡ get_or v.patches k p → r ≡ get_or v.rows k r → get_or (marks o v count verdicts) k m ≡ mark_in o v verdicts (p, r)
    unfolding marks
    mark_at k p r m low is_p is_r =
        let front : length (take count v.patches) ≡ min count (length v.patches) = length-take count v.patches in
        let both : length (zip (take count v.patches) v.rows) ≡ min (length (take count v.patches)) (length v.rows) = length-zip (take count v.patches) v.rows in
        let patch : get_or (take count v.patches) k p ≡ p = get_or-take count v.patches k p low ∙ sym is_p in
        get_or-map (mark_in o v verdicts) (zip (take count v.patches) v.rows) k (p, r) m (omega arith)
        ∙ ap (mark_in o v verdicts) (get_or-zip (take count v.patches) v.rows k (p, r) (omega arith) (omega arith) ∙ ap (λ (x : FilePatch). (x, get_or v.rows k r)) patch ∙ ap (λ (x : Row). (p, x)) (sym is_r))

    pub marks-length : length (marks o v count verdicts) ≡ count
    unfolding marks
    marks-length =
        let front : length (take count v.patches) ≡ min count (length v.patches) = length-take count v.patches in
        let both : length (zip (take count v.patches) v.rows) ≡ min (length (take count v.patches)) (length v.rows) = length-zip (take count v.patches) v.rows in
        let all : length (map (mark_in o v verdicts) (zip (take count v.patches) v.rows)) ≡ length (zip (take count v.patches) v.rows) = length-map (zip (take count v.patches) v.rows) (mark_in o v verdicts) in
        omega arith

-- a mark that says nothing
abbrev pub no_mark : PastFilePatch
no_mark = record { written = None; renamed = None; rejected = None }

-- an element that passes is enough
pub any_at : (p : PastFilePatch → Bool) (xs : List PastFilePatch) (i : ℕ) (d : PastFilePatch) → i < length xs → p (get_or xs i d) ≡ true → list_any p xs ≡ true
any_at p xs i d lt is =
    ap (list_any p) (sym (take-append-drop (i + 1) xs)) ∙ list_any-append p (take (i + 1) xs) (drop (i + 1) xs)
    ∙ ap (λ b. b || list_any p (drop (i + 1) xs)) (list_any_more p xs i d lt ∙ ap (λ b. list_any p (take i xs) || b) is ∙ or-true (list_any p (take i xs)))
  where
    or-true : (b : Bool) → (b || true) ≡ true
    or-true true = refl
    or-true false = refl

pub any_more : (p : PastFilePatch → Bool) (xs : List PastFilePatch) (i : ℕ) (d : PastFilePatch) → i < length xs → list_any p (take i xs) ≡ false → p (get_or xs i d) ≡ false → list_any p (take (i + 1) xs) ≡ false
any_more p xs i d lt before here = list_any_more p xs i d lt ∙ ap (λ b. b || p (get_or xs i d)) before ∙ here

pub any_all : (p : PastFilePatch → Bool) (xs : List PastFilePatch) (n : ℕ) → length xs ≡ n → list_any p (take n xs) ≡ false → list_any p xs ≡ false
any_all p xs n is none = ap (list_any p) (sym (take_all n xs (omega arith))) ∙ none

pub in_set : (k count n : ℕ) → k < count → count ≤ n → k < n
in_set k count n lt le = omega arith

-- a file patch of a set that is ready
pub fit_at : (o : PlainOptions) (v : SetView) (count k : ℕ) (p : FilePatch) → IsReady o v → count ≤ length v.patches → k < count → p ≡ get_or v.patches k p → IsFit v.text p
fit_at o v count k p ready within low is = subst (IsFit v.text) (sym is) (ready.patches k p (in_set k count (length v.patches) low within))
