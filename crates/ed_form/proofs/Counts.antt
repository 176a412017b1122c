-- Each line that is read is counted.
use Rattle.std.proofs.Common.{◌≡◌, ℕ, ◌+◌, ◌≤◌, ◌<◌, List, [], ◌∷◌, length, Ok, refl, subst, arith, inl, inr}
use Rattle.hunk_core.specs.declared.BadKind.TheVariants as kinds
use Rattle.hunk_core.specs.Reading.{◌>>=◌, fault, Ahead, ahead}
use Rattle.hunk_core.proofs.ReadSteps.{bind_ok, guard_ok, ok_is}
use Rattle.line_list.proofs.Choices.{chosen}
use Rattle.hunk_core.specs.declared.command.Action.{Action}
use Rattle.hunk_core.specs.declared.command.Action.TheVariants.{Add, Change, Delete}
use Rattle.ed_form.specs.declared.added.TextState.{TextState}
use Rattle.ed_form.specs.declared.added.TextState.TheVariants.{Text}
use Rattle.ed_form.specs.declared.command.Heading.{Heading}
use Rattle.ed_form.specs.Commands.{opening}
use Rattle.ed_form.specs.PlainEdit.{PlainEdit}
use Rattle.ed_form.specs.Texts.{is_open, is_taken, step, closed, text_at}
use Rattle.ed_form.specs.Scripts.{at_line, added_at, edit, first_edit}

-- from a line with this number, before so many lines, to what is ahead
pub record Counts (number lines : ℕ) (p : Ahead) : Type 0 where
  pub low : number ≤ p.number
  pub same : p.number + length p.rest ≡ number + lines

closed-counts : (opened : ℕ) (part : TextState) (before : List (List ℕ)) (number : ℕ) (rest : List (List ℕ)) (x : List (List ℕ) × Ahead) → closed opened part before (ahead number rest) ≡ Ok x → Counts number (length rest) x.1
closed-counts opened part before number rest x h =
    let g = guard_ok (is_open part) (fault opened kinds.EdNoDot) (before, ahead number rest) x h in
    subst (λ (y : List (List ℕ) × Ahead). Counts number (length rest) y.1) g.1 (record { low = omega arith; same = refl })

pub text-counts : (opened : ℕ) (part : TextState) (before : List (List ℕ)) (number : ℕ) (rest : List (List ℕ)) (x : List (List ℕ) × Ahead) → text_at opened part before number rest ≡ Ok x → Counts number (length rest) x.1
unfolding text_at
text-counts opened part before number [] x h = closed-counts opened part before number [] x h
text-counts opened part before number (line ∷ rest) x h =
    elim (chosen (is_taken part before line) _ _ (Ok x) h) [
      | inl taken ↦ (
          let more = text-counts opened (step part before line).0 (step part before line).1 (number + 1) rest x taken.1 in
          record { low = omega (arith, more.low); same = omega (arith, more.same) })
      | inr none ↦ closed-counts opened part before number (line ∷ rest) x none.1
    ]

pub added-counts : (opened : ℕ) (action : Action) (p : Ahead) (x : List (List ℕ) × Ahead) → added_at opened action p ≡ Ok x → Counts p.number (length p.rest) x.1
added-counts opened Add p x h = text-counts opened Text [] p.number p.rest x h
added-counts opened Change p x h = text-counts opened Text [] p.number p.rest x h
added-counts opened Delete p x h = subst (λ (y : List (List ℕ) × Ahead). Counts p.number (length p.rest) y.1) (ok_is _ _ h) (record { low = omega arith; same = refl })

-- an edit has a line or more
pub record CountsSome (number lines : ℕ) (p : Ahead) : Type 0 where
  pub low : number < p.number
  pub same : p.number + length p.rest ≡ number + lines

-- the parts of an edit
pub record EditParts (below number : ℕ) (line : List ℕ) (rest : List (List ℕ)) (x : PlainEdit × Ahead) : Type 0 where
  pub h : Heading
  pub text : List (List ℕ) × Ahead
  pub heading : at_line number (opening below line) ≡ Ok h
  pub added : added_at number h.action (ahead (number + 1) rest) ≡ Ok text
  pub is : (edit h text.0, text.1) ≡ x

pub edit-parts : (below number : ℕ) (line : List ℕ) (rest : List (List ℕ)) (x : PlainEdit × Ahead) → first_edit below number (line ∷ rest) ≡ Ok x → EditParts below number line rest x
unfolding first_edit
edit-parts below number line rest x e =
    let a = bind_ok (at_line number (opening below line)) (λ h. added_at number h.action (ahead (number + 1) rest) >>= λ text. Ok (edit h text.0, text.1)) x e in
    let b = bind_ok (added_at number a.0.action (ahead (number + 1) rest)) (λ text. Ok (edit a.0 text.0, text.1)) x a.2 in
    record { h = a.0; text = b.0; heading = a.1; added = b.1; is = ok_is _ _ b.2 }

pub no-edit : (below number : ℕ) (x : PlainEdit × Ahead) (A : Type 0) → first_edit below number [] ≡ Ok x → A
unfolding first_edit
no-edit below number x A h = absurd cc

pub edit-counts : (below number : ℕ) (rest : List (List ℕ)) (x : PlainEdit × Ahead) → first_edit below number rest ≡ Ok x → CountsSome number (length rest) x.1
edit-counts below number [] x h = no-edit below number x _ h
edit-counts below number (line ∷ rest) x h =
    let parts = edit-parts below number line rest x h in
    let more = added-counts number parts.h.action (ahead (number + 1) rest) parts.text parts.added in
    subst (λ (y : PlainEdit × Ahead). CountsSome number (length (line ∷ rest)) y.1) parts.is (record { low = omega (arith, more.low); same = omega (arith, more.same) })
