-- The lines of a written header: nothing opens at them, and nothing goes on with them.
use Rattle.std.proofs.Common.{◌≡◌, ℕ, ◌-◌, true, false, cond, List, [], ◌∷◌, ◌++◌, length, take, Option, None, refl, ap, ◌∙◌, arith}
use Rattle.std.specs.Prelude.{codes}
use Rattle.std.proofs.Math.Seq.{take-append_seam}
use Rattle.std.proofs.lemmas.List.{length-append}
use Rattle.std.proofs.lemmas.Bool.{and_right}
use Rattle.hunk_core.specs.declared.Form.{Form}
use Rattle.hunk_core.specs.declared.Form.TheVariants.{Unified, Context, Normal, Ed}
use Rattle.hunk_core.specs.LineTests.{after, ends_line}
use Rattle.num_text.specs.NumberRanges.{range_at}
use Rattle.ed_form.specs.Commands as ed
use Rattle.unified_form.specs.Ranges as range_line
use Rattle.normal_form.specs.Commands as command
use Rattle.patch_header.specs.Content.{content, is_binary}
use Rattle.patch_header.specs.GitHeaders.{begins_bare, is_git_line}
use Rattle.patch_header.specs.Openings.{begins, stop_at}
use Rattle.patch_header.specs.declared.read_options.ReadOptions.{ReadOptions}
use Rattle.patch_header.proofs.Stands.{nothing-words, stops-not}
use Rattle.law_reading.specs.Joins.{BeginCleanly}

-- what a line of a written header begins with
pub data Kind : Type 0 where
  Minus : Kind
  Plus : Kind
  Stars : Kind
  Index : Kind

abbrev pub mark : Kind → List ℕ
mark Minus = codes "--- "
mark Plus = codes "+++ "
mark Stars = codes "*** "
mark Index = codes "Index: "

abbrev pub closed : List ℕ → List ℕ
closed bs = bs ++ 10 ∷ []

abbrev pub line_of : Kind → List ℕ → List ℕ
line_of k bs = closed (mark k ++ bs)

closed-ends : (bs : List ℕ) → ends_line (closed bs) ≡ true
closed-ends [] = refl
closed-ends (b ∷ []) = refl
closed-ends (b ∷ c ∷ bs) = closed-ends (c ∷ bs)

pub content-closed : (bs : List ℕ) → content (closed bs) ≡ bs
content-closed bs =
    let long : length (closed bs) - 1 ≡ length bs = omega (arith, length-append bs (10 ∷ [])) in
    ap (λ v. cond v (take (length (closed bs) - 1) (closed bs)) (closed bs)) (closed-ends bs)
    ∙ ap (λ n. take n (closed bs)) long ∙ take-append_seam bs (10 ∷ [])

begins-none : (only : Option Form) (k : Kind) (f : Form) (bs : List ℕ) (more : List (List ℕ)) → begins only f (line_of k bs ∷ more) ≡ false
unfolding range_line.is_opening command.parts_at ed.parts_at range_at after
begins-none only Minus Unified bs more = refl
begins-none only Minus Context bs more = refl
begins-none only Minus Normal bs more = refl
begins-none only Minus Ed bs more = refl
begins-none only Plus Unified bs more = refl
begins-none only Plus Context bs more = refl
begins-none only Plus Normal bs more = refl
begins-none only Plus Ed bs more = refl
begins-none only Stars Unified bs more = refl
begins-none only Stars Context bs more = refl
begins-none only Stars Normal bs more = refl
begins-none only Stars Ed bs more = refl
begins-none only Index Unified bs more = refl
begins-none only Index Context bs more = refl
begins-none only Index Normal bs more = refl
begins-none only Index Ed bs more = refl

binary-none : (k : Kind) (bs : List ℕ) → is_binary (line_of k bs) ≡ false
unfolding after
binary-none Minus bs = rw (content-closed (mark Minus ++ bs)) refl
binary-none Plus bs = rw (content-closed (mark Plus ++ bs)) refl
binary-none Stars bs = rw (content-closed (mark Stars ++ bs)) refl
binary-none Index bs = rw (content-closed (mark Index ++ bs)) refl

pub git-none : (k : Kind) (bs : List ℕ) → is_git_line (line_of k bs) ≡ false
unfolding after
git-none Minus bs = rw (content-closed (mark Minus ++ bs)) refl
git-none Plus bs = rw (content-closed (mark Plus ++ bs)) refl
git-none Stars bs = rw (content-closed (mark Stars ++ bs)) refl
git-none Index bs = rw (content-closed (mark Index ++ bs)) refl

bare-none : (k : Kind) (bs : List ℕ) (more : List (List ℕ)) → begins_bare (line_of k bs ∷ more) ≡ false
unfolding begins_bare
bare-none k bs more = rw (git-none k bs) refl

-- nothing stands at such a line
pub quiet-line : (ways : ReadOptions) (k : Kind) (bs : List ℕ) (more : List (List ℕ)) → stop_at ways (line_of k bs ∷ more) ≡ None
quiet-line ways k bs more =
    (nothing-words ways (line_of k bs ∷ more)).1 (
      λ f. and_right _ (begins ways.only f (line_of k bs ∷ more)) (begins-none ways.only k f bs more),
      and_right _ (is_binary (line_of k bs)) (binary-none k bs),
      stops-not ways (line_of k bs ∷ more) (bare-none k bs more),
    )

-- no file patch goes on with such a line
pub clean-line : (k : Kind) (bs : List ℕ) (more : List (List ℕ)) → BeginCleanly (line_of k bs ∷ more)
unfolding range_line.is_opening command.parts_at ed.parts_at range_at after
clean-line Minus bs more = record { unified = refl; context = refl; normal = refl; command = refl; append = refl; kept = refl; added = refl; changed = refl; substitution = refl; backslash = refl }
clean-line Plus bs more = record { unified = refl; context = refl; normal = refl; command = refl; append = refl; kept = refl; added = refl; changed = refl; substitution = refl; backslash = refl }
clean-line Stars bs more = record { unified = refl; context = refl; normal = refl; command = refl; append = refl; kept = refl; added = refl; changed = refl; substitution = refl; backslash = refl }
clean-line Index bs more = record { unified = refl; context = refl; normal = refl; command = refl; append = refl; kept = refl; added = refl; changed = refl; substitution = refl; backslash = refl }
