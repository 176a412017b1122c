-- The reject texts of file patches before one.
use Rattle.std.proofs.Common.{◌≡◌, ◌+◌, ◌<◌, ◌++◌, ◌∷◌, ◌&&◌, ℕ, List, [], length, get_or, take, drop, Bool, true, false, not, bytes_eq, if◌then◌else◌, Option, Some, None, refl, sym, ◌∙◌, ap, take-append-drop, ◌||◌, nat_lt, cond, count_by, zero-add, arith}
use Rattle.std.proofs.lemmas.Grind.{flat_map-append}
use Rattle.std.proofs.lemmas.List.{take_more, append-nil}
use Rattle.std.proofs.lemmas.Bool.{false≢true}
use Rattle.std.proofs.lemmas.Bool.Decides.{nat_tests}
use Rattle.std.proofs.lemmas.List.Sums.{sum_by-cons}
use Rattle.std.specs.List.{flat_map, list_any}
use Rattle.std.specs.Option.{option_map}
use Rattle.hunk_core.specs.declared.Verdict.{Verdict}
use Rattle.read_file_patch.specs.declared.Change.{Change}
use Rattle.read_file_patch.specs.PlainPatch.{change_of}
use Rattle.patch_set.specs.declared.set.Row.{Row}
use Rattle.reject_text.specs.Rejects.{AreHunks}
use Rattle.patch_options.specs.PlainJob.{PlainOptions}
use Rattle.read_file_patch.specs.declared.derived.Target.{Target}
use Rattle.apply_task.specs.Contexts.{PastFilePatch, PlainContext, written_by}
use Rattle.apply_outcome.specs.Outcome.{mark_of, has_rejects, is_unrejected, own_reject, text_if, rejected_before}
use Rattle.apply_outcome.proofs.Writing.{rejected_are_hunks}

-- a file patch of which nothing is rejected, or none in a dry run
pub no_text : (t : PlainContext) (r : Row) (vs : List Verdict) (name : List ℕ) → (has_rejects t vs && not t.options.dry_run) ≡ false → [] ≡ text_if name (mark_of t r vs).rejected
unfolding mark_of
no_text t r vs name is = sym (ap (λ (b : Bool). text_if name (if b then option_map (λ w. (w.reject, own_reject t w r.side vs)) (written_by t r) else None)) is)

-- one whose rejects go to this file
pub own_text : (t : PlainContext) (r : Row) (vs : List Verdict) (name : List ℕ) (w : Target) → (has_rejects t vs && not t.options.dry_run) ≡ true → written_by t r ≡ Some w → bytes_eq name w.reject ≡ true → own_reject t w r.side vs ≡ text_if name (mark_of t r vs).rejected
unfolding mark_of
own_text t r vs name w is by same = sym (
    ap (λ (b : Bool). text_if name (if b then option_map (λ x. (x.reject, own_reject t x r.side vs)) (written_by t r) else None)) is
    ∙ ap (λ (o : Option Target). text_if name (option_map (λ x. (x.reject, own_reject t x r.side vs)) o)) by
    ∙ ap (λ (b : Bool). if b then own_reject t w r.side vs else []) same)

-- one whose rejects go to another file
pub other_text : (t : PlainContext) (r : Row) (vs : List Verdict) (name : List ℕ) (w : Target) → written_by t r ≡ Some w → bytes_eq name w.reject ≡ false → [] ≡ text_if name (mark_of t r vs).rejected
unfolding mark_of
other_text t r vs name w by other = sym (
    ap (λ (o : Option Target). text_if name (if has_rejects t vs && not t.options.dry_run then option_map (λ x. (x.reject, own_reject t x r.side vs)) o else None)) by
    ∙ none (has_rejects t vs && not t.options.dry_run))
  where
    none : (b : Bool) → text_if name (if b then Some (w.reject, own_reject t w r.side vs) else None) ≡ []
    none true = ap (λ (same : Bool). if same then own_reject t w r.side vs else []) other
    none false = refl

-- one that chose no target
pub no_writer : (t : PlainContext) (r : Row) (vs : List Verdict) (name : List ℕ) → written_by t r ≡ None → [] ≡ text_if name (mark_of t r vs).rejected
unfolding mark_of
no_writer t r vs name by = sym (
    ap (λ (o : Option Target). text_if name (if has_rejects t vs && not t.options.dry_run then option_map (λ x. (x.reject, own_reject t x r.side vs)) o else None)) by
    ∙ none (has_rejects t vs && not t.options.dry_run))
  where
    none : (b : Bool) → text_if name (if b then None else None) ≡ []
    none true = refl
    none false = refl

-- both, from how they are tested
pub not_both : (a b : Bool) → b ≡ true → (a && not b) ≡ false
not_both true b is = ap not is
not_both false b is = refl

pub both : (a b : Bool) → a ≡ true → b ≡ false → (a && not b) ≡ true
both a b is isnt = ap (λ x. x && not b) is ∙ ap not isnt

-- what goes to a reject file is hunks
pub rejected_hunks : (o : PlainOptions) (text : List ℕ) (x : Change) (some : Bool) → (some && not (is_unrejected o (change_of text x))) ≡ true → AreHunks x
rejected_hunks o text x true is = rejected_are_hunks o text x is
rejected_hunks o text x false is = absurd (false≢true is)

pub rejected-none : (name : List ℕ) → [] ≡ rejected_before [] name
unfolding rejected_before
rejected-none name = refl

pub rejected-more : (past : List PastFilePatch) (i : ℕ) (m : PastFilePatch) (name : List ℕ) → i < length past → rejected_before (take i past) name ++ text_if name (get_or past i m).rejected ≡ rejected_before (take (i + 1) past) name
unfolding rejected_before
rejected-more past i m name lt =
    let f : PastFilePatch → List ℕ = λ x. text_if name x.rejected in
    sym (ap (flat_map f) (take_more past i m lt) ∙ flat_map-append f (take i past) (get_or past i m ∷ []) ∙ ap (λ (l : List ℕ). flat_map f (take i past) ++ l) (append-nil (f (get_or past i m))))

pub rejected-split : (past : List PastFilePatch) (n : ℕ) (name : List ℕ) → rejected_before (take n past) name ++ rejected_before (drop n past) name ≡ rejected_before past name
unfolding rejected_before
rejected-split past n name =
    let f : PastFilePatch → List ℕ = λ x. text_if name x.rejected in
    sym (flat_map-append f (take n past) (drop n past)) ∙ ap (flat_map f) (take-append-drop n past)

-- some pass where their number isn't 0
pub any-counted : (p : Verdict → Bool) (vs : List Verdict) → list_any p vs ≡ nat_lt 0 (count_by p vs)
any-counted p [] = refl
any-counted p (v ∷ vs) = one (p v) (list_any p vs) (count_by p vs) (any-counted p vs) ∙ ap (nat_lt 0) (sym (sum_by-cons (λ x. cond (p x) 1 0) v vs))
  where
    one : (b c : Bool) (n : ℕ) → c ≡ nat_lt 0 n → (b || c) ≡ nat_lt 0 (cond b 1 0 + n)
    one true c n is = grind (arith, nat_tests)
    one false c n is = is ∙ ap (nat_lt 0) (sym (zero-add n))
