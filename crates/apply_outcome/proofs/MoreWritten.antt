-- The names that a run has made or taken away, with those of a file patch more.
use Rattle.std.proofs.Common.{◌≡◌, ℕ, List, [], ◌∷◌, ◌++◌, Bool, true, false, not, ◌||◌, if◌then◌else◌, None, Some, option_map, refl, sym, ◌∙◌, ap, subst}
use Rattle.std.proofs.lemmas.List.Folds.{list_any-append}
use Rattle.hunk_core.specs.declared.Verdict.{Verdict}
use Rattle.outside.specs.Marked.{is_marked}
use Rattle.outside.specs.declared.marks.WrittenNames.{WrittenNames}
use Rattle.patch_set.specs.declared.set.Row.{Row}
use Rattle.read_file_patch.specs.declared.derived.Target.{Target}
use Rattle.apply_task.specs.Contexts.{PastFilePatch, PlainContext, written_by, renamed_by}
use Rattle.apply_outcome.specs.Outcome.{mark_of, is_name, has_name, was_written}
use Rattle.apply_outcome.specs.Ready.{AreWritten}

pub unset : (b : Bool) → not b ≡ true → b ≡ false
unset true is = sym is
unset false is = refl

pub isset : (b : Bool) → not b ≡ false → b ≡ true
isset true is = refl
isset false is = sym is

none_more : (c : Bool) → c ≡ (c || (false || false))
none_more true = refl
none_more false = refl

both_more : (a b c : Bool) → (b || (a || c)) ≡ (c || ((a || b) || false))
both_more true true true = refl
both_more true true false = refl
both_more true false true = refl
both_more true false false = refl
both_more false true true = refl
both_more false true false = refl
both_more false false true = refl
both_more false false false = refl

module _ (t : PlainContext) (r : Row) (vs : List Verdict) (q : List ℕ) where
  -- by the flag of its row
  has_by : (b : Bool) → r.wrote ≡ b → has_name q (mark_of t r vs)
      ≡ (is_name q (if b then option_map (λ (w : Target). w.name) (written_by t r) else None) || is_name q (if b then option_map (λ (w : Target). w.name) (renamed_by t r) else None))
  unfolding mark_of
  has_by b is = ap (λ (x : Bool). is_name q (if x then option_map (λ (w : Target). w.name) (written_by t r) else None) || is_name q (if x then option_map (λ (w : Target). w.name) (renamed_by t r) else None)) is

  pub has-none : r.wrote ≡ false → has_name q (mark_of t r vs) ≡ false
  has-none is = has_by false is

  pub has-both : r.wrote ≡ true → has_name q (mark_of t r vs) ≡ (is_name q (option_map (λ (w : Target). w.name) (written_by t r)) || is_name q (option_map (λ (w : Target). w.name) (renamed_by t r)))
  has-both is = has_by true is

module _ (t : PlainContext) (r : Row) (vs : List Verdict) (past : List PastFilePatch) (q : List ℕ) where
  has_more : (b : Bool) → has_name q (mark_of t r vs) ≡ b → was_written (past ++ mark_of t r vs ∷ []) q ≡ (was_written past q || (b || false))
  has_more b is = list_any-append (has_name q) past (mark_of t r vs ∷ []) ∙ ap (λ (x : Bool). was_written past q || (x || false)) is

  -- one that wrote nothing adds none
  pub written-still : r.wrote ≡ false → was_written past q ≡ was_written (past ++ mark_of t r vs ∷ []) q
  written-still is = none_more (was_written past q) ∙ sym (has_more false (has-none t r vs q is))

  -- one that wrote adds both its names
  pub written-more : (was is : Bool) → r.wrote ≡ true → was ≡ was_written past q
      → is ≡ (is_name q (option_map (λ (w : Target). w.name) (renamed_by t r)) || (is_name q (option_map (λ (w : Target). w.name) (written_by t r)) || was))
      → is ≡ was_written (past ++ mark_of t r vs ∷ []) q
  written-more was is wrote before now =
      let w = is_name q (option_map (λ (x : Target). x.name) (written_by t r)) in
      let s = is_name q (option_map (λ (x : Target). x.name) (renamed_by t r)) in
      now ∙ ap (λ b. s || (w || b)) before ∙ both_more w s (was_written past q) ∙ sym (has_more (w || s) (has-both t r vs q wrote))

-- names that are kept
pub some-written : (n : WrittenNames) (marks : List PastFilePatch) → ((q : List ℕ) → is_marked n q ≡ was_written marks q) → AreWritten (Some n) marks
some-written n marks all m is = let same : n ≡ m = cc in subst (λ (x : WrittenNames). (q : List ℕ) → is_marked x q ≡ was_written marks q) same all
