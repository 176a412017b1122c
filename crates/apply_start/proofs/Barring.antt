-- Hunks of a file patch that makes its file, over lines that are there.
use Rattle.std.proofs.Common.{◌≡◌, ◌∙◌, ℕ, zero, suc, List, [], length, Bool, true, false, not, ◌&&◌, ◌==◌, if◌then◌else◌, Option, Some, Result, Ok, Err, OnOk, IfOk, refl, sym, ap, arith}
use Rattle.std.specs.Prelude.{count_by, nat_lt, replicate, All}
use Rattle.std.specs.List.{list_any}
use Rattle.std.specs.Option.{ForSome}
use Rattle.std.proofs.lemmas.Bool.{false≢true}
use Rattle.std.proofs.lemmas.List.Elements.{All-replicate}
use Rattle.std.proofs.lemmas.List.Folds.{sum_by-replicate}
use Rattle.hunk_core.specs.declared.Side.{Side}
use Rattle.hunk_core.specs.declared.Verdict.{Verdict}
use Rattle.hunk_core.specs.declared.Verdict.TheVariants.{Nowhere}
use Rattle.read_file_patch.specs.PlainPatch.{PlainPatch, hunks, hunk_count}
use Rattle.hunk_apply.specs.Change.{change_output, change_verdicts}
use Rattle.hunk_apply.specs.declared.Session.{Session}
use Rattle.hunk_apply.specs.Written.{is_nothing}
use Rattle.hunk_apply.specs.Session.{is_placed, is_failed, is_inexact, IsTried}
use Rattle.patch_options.specs.PlainJob.{PlainOptions}
use Rattle.apply_task.specs.Contexts.{PlainContext}
use Rattle.apply_task.specs.Outputs.{has_lines, is_barred, verdicts_over, text_over, text_of, parted_output, output_on, IsSession}

pub count_lines : (ls : List (List ℕ)) (n : ℕ) → n ≡ length ls → nat_lt 0 n ≡ has_lines ls
count_lines ls n is = ap (λ k. nat_lt 0 k) is

pub all_tests : (a b c d : Bool) → a ≡ true → b ≡ false → c ≡ true → d ≡ (a && not b && c && d)
all_tests true false true d is none made = refl
all_tests true false false d is none made = absurd (false≢true made)
all_tests true true c d is none made = absurd (false≢true (sym none))
all_tests false b c d is none made = absurd (false≢true is)

-- ---- what they come to
module _ (o : PlainOptions) (side : Side) (p : PlainPatch) (ls : List (List ℕ)) where
  pub verdicts_barred : is_barred o side p ls ≡ true → verdicts_over o side p ls ≡ replicate (hunk_count p.change) Nowhere
  verdicts_barred is = ap (λ b. if b then replicate (hunk_count p.change) Nowhere else change_verdicts ls o.fuzz o.loose side p.change) is

  pub verdicts_free : is_barred o side p ls ≡ false → verdicts_over o side p ls ≡ change_verdicts ls o.fuzz o.loose side p.change
  verdicts_free is = ap (λ b. if b then replicate (hunk_count p.change) Nowhere else change_verdicts ls o.fuzz o.loose side p.change) is

  pub text_barred : is_barred o side p ls ≡ true → text_over o side p ls ≡ change_output ls o.fuzz o.loose side (hunks [])
  text_barred is = ap (λ b. change_output ls o.fuzz o.loose side (if b then hunks [] else p.change)) is

  pub text_free : is_barred o side p ls ≡ false → text_over o side p ls ≡ change_output ls o.fuzz o.loose side p.change
  text_free is = ap (λ b. change_output ls o.fuzz o.loose side (if b then hunks [] else p.change)) is

-- ---- verdicts of hunks that all failed
pub none_placed : (n : ℕ) → 0 ≡ count_by is_placed (replicate n Nowhere)
none_placed n = omega (arith, sum_by-replicate (λ v. if is_placed v then 1 else 0) n Nowhere)

pub all_failed : (n : ℕ) → n ≡ count_by is_failed (replicate n Nowhere)
all_failed n = omega (arith, sum_by-replicate (λ v. if is_failed v then 1 else 0) n Nowhere)

pub some_inexact : (n : ℕ) → (n == 0) ≡ false → true ≡ list_any is_inexact (replicate n Nowhere)
some_inexact zero is = absurd (false≢true (sym is))
some_inexact (suc n) is = refl

pub all_tried : (n : ℕ) → All IsTried (replicate n Nowhere)
all_tried n = All-replicate IsTried n Nowhere tt

-- ---- with conditions
module _ (t : PlainContext) (side : Side) (define : List ℕ) (ls : List (List ℕ)) where
  pub output_barred : is_barred t.options side t.item.patch ls ≡ true → output_on (Some define) t side ls ≡ text_of t side ls
  output_barred is = ap (λ b. if b then text_of t side ls else parted_output t side ls define) is

  pub output_free : is_barred t.options side t.item.patch ls ≡ false → output_on (Some define) t side ls ≡ parted_output t side ls define
  output_free is = ap (λ b. if b then text_of t side ls else parted_output t side ls define) is

-- ---- answers
pub on_ok : {R E P : Type 0} (r : Result R E) → P → OnOk r P
on_ok (Ok x) p = p
on_ok (Err e) p = tt

pub made_session : {E : Type 0} (r : Result Session E) (vs : List Verdict) (told : Option (List (List ℕ))) (text all : List (List ℕ) → List ℕ) → ((lines : List (List ℕ)) → told ≡ Some lines → text lines ≡ all lines)
    → IfOk r (λ s. s.applied ≡ count_by is_placed vs) → IfOk r (λ s. s.failed ≡ count_by is_failed vs) → IfOk r (λ s. s.inexact ≡ list_any is_inexact vs)
    → IfOk r (λ s. (lines : List (List ℕ)) → told ≡ Some lines → s.output_empty ≡ is_nothing (all lines))
    → IfOk r (λ s. (lines : List (List ℕ)) → told ≡ Some lines → IsSession s vs (text lines))
made_session (Ok s) vs told text all same applied failed inexact empty = λ lines is. record { applied = applied; failed = failed; inexact = inexact; empty = empty lines is ∙ ap is_nothing (sym (same lines is)) }
made_session (Err e) vs told text all same applied failed inexact empty = tt

pub some_weaker : {A : Type 0} {P Q : A → Type 0} (o : Option A) → ((x : A) → P x → Q x) → ForSome o P → ForSome o Q
some_weaker o h is = λ x at. h x (is x at)
