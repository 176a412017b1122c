-- Reading one edit after the other, as a loop does.
use Rattle.std.proofs.Common.{◌≡◌, ℕ, zero, suc, ◌+◌, ◌-◌, ◌≤◌, ◌<◌, ◌^◌, true, false, List, [], ◌∷◌, ◌++◌, length, Result, Ok, Err, refl, sym, ap, ◌∙◌, arith}
use Rattle.std.proofs.lemmas.List.{append-nil}
use Rattle.hunk_core.specs.declared.BadKind.{BadKind}
use Rattle.hunk_core.specs.declared.BadKind.TheVariants as kinds
use Rattle.hunk_core.specs.declared.fault.FormFault.{FormFault}
use Rattle.hunk_core.specs.declared.fault.FormFault.TheVariants as errors
use Rattle.hunk_core.specs.Reading.{◌>>=◌, Fault, fault, Fails, Ahead, ahead}
use Rattle.hunk_core.proofs.ReadSteps.{with_front, front_none, regroup}
use Rattle.ed_form.specs.declared.command.Heading.{Heading}
use Rattle.ed_form.specs.Commands.{begins_script, opening}
use Rattle.ed_form.specs.PlainEdit.{PlainEdit, lowest}
use Rattle.ed_form.specs.Scripts.{added_at, edit, first_edit, edit_at, begins_substitution, no_edits, edits_at, reading}
use Rattle.ed_form.proofs.Counts.{edit-counts}

-- these edits were read, and what is left gives the whole
pub record EditsSoFar (front : List PlainEdit) (below : ℕ) (p : Ahead) (total : Result (List PlainEdit × Ahead) Fault) : Type 0 where
  pub most : ℕ
  pub enough : length p.rest ≤ most
  pub same : with_front front (edits_at most below p) ≡ total

pub some_lines : (rest : List (List ℕ)) → begins_script rest ≡ true → 0 < length rest
some_lines [] h = absurd cc
some_lines (line ∷ rest) h = omega arith

pub edits_step : (most below : ℕ) (p : Ahead) → begins_script p.rest ≡ true → edits_at (suc most) below p ≡ (edit_at below p >>= λ first. edits_at most (lowest first.0) first.1 >>= λ others. Ok (first.0 ∷ others.0, others.1))
unfolding edits_at
edits_step most below p opens = rw opens refl

pub edits_go_on : (front : List PlainEdit) (below : ℕ) (p : Ahead) (x : PlainEdit × Ahead) (total : Result (List PlainEdit × Ahead) Fault) → begins_script p.rest ≡ true → edit_at below p ≡ Ok x
    → EditsSoFar front below p total → EditsSoFar (front ++ x.0 ∷ []) (lowest x.0) x.1 total
edits_go_on front below p x total opens read so_far =
    let most = so_far.most in
    let some = some_lines p.rest opens in
    let k : most ≡ suc (most - 1) = omega (arith, so_far.enough) in
    let counts = edit-counts below p.number p.rest x read in
    let one : with_front front (edits_at most below p) ≡ with_front (front ++ x.0 ∷ []) (edits_at (most - 1) (lowest x.0) x.1) = ap (λ m. with_front front (edits_at m below p)) k ∙ rw (edits_step (most - 1) below p opens, read) (regroup front x.0 (edits_at (most - 1) (lowest x.0) x.1)) in
    record { most = most - 1; enough = omega (arith, so_far.enough, counts.low, counts.same); same = sym one ∙ so_far.same }

-- the same over what the code made of the edit
pub edits_next : (front more : List PlainEdit) (below low : ℕ) (p : Ahead) (e : PlainEdit) (next : Ahead) (total : Result (List PlainEdit × Ahead) Fault) → more ≡ front ++ e ∷ [] → low ≡ lowest e
    → begins_script p.rest ≡ true → edit_at below p ≡ Ok (e, next) → EditsSoFar front below p total → EditsSoFar more low next total
edits_next front more below low p e next total pushed is opens read so_far = rw (pushed, is) (edits_go_on front below p (e, next) total opens read so_far)

pub edits_fail : (e : FormFault) (front : List PlainEdit) (below : ℕ) (p : Ahead) (total : Result (List PlainEdit × Ahead) Fault) → begins_script p.rest ≡ true → Fails e (edit_at below p) → EditsSoFar front below p total → Fails e total
edits_fail errors.Memory front below p total opens h so_far = tt
edits_fail (errors.Malformed line kind) front below p total opens h so_far =
    let some = some_lines p.rest opens in
    let k : so_far.most ≡ suc (so_far.most - 1) = omega (arith, so_far.enough) in
    let one : with_front front (edits_at so_far.most below p) ≡ Err (record { line = line; kind = kind }) = ap (λ m. with_front front (edits_at m below p)) k ∙ rw (edits_step (so_far.most - 1) below p opens, h) refl in
    sym so_far.same ∙ one

pub no_more : (most below : ℕ) (p : Ahead) → begins_script p.rest ≡ false → edits_at most below p ≡ no_edits p
unfolding edits_at
no_more zero below p none = refl
no_more (suc most) below p none = rw none refl

pub edits_done : (front : List PlainEdit) (below : ℕ) (p : Ahead) (total : Result (List PlainEdit × Ahead) Fault) → begins_script p.rest ≡ false → begins_substitution p.rest ≡ false → EditsSoFar front below p total → total ≡ Ok (front, p)
edits_done front below p total none clean so_far = sym so_far.same ∙ rw (no_more so_far.most below p none, clean) (ap (λ es. Ok (es, p)) (append-nil front))

pub edits_refused : (front : List PlainEdit) (below : ℕ) (p : Ahead) (total : Result (List PlainEdit × Ahead) Fault) → begins_script p.rest ≡ false → begins_substitution p.rest ≡ true → EditsSoFar front below p total → total ≡ Err (fault p.number kinds.EdCommand)
edits_refused front below p total none substitutes so_far = sym so_far.same ∙ rw (no_more so_far.most below p none, substitutes) refl

-- no edit was read yet
pub edits_begin : (number : ℕ) (rest : List (List ℕ)) → EditsSoFar [] (2 ^ 32) (ahead number rest) (reading number rest)
edits_begin number rest = record { most = length rest; enough = omega arith; same = front_none (edits_at (length rest) (2 ^ 32) (ahead number rest)) }

-- ---- one edit

module _ (below number : ℕ) (ls : List (List ℕ)) where
  pub edit-missing : ls ≡ [] → first_edit below number ls ≡ Err (fault number kinds.Range)
  unfolding first_edit
  edit-missing e = rw e refl

  module _ (line : List ℕ) (rest : List (List ℕ)) (first : ls ≡ line ∷ rest) where
    pub edit-bad : (kind : BadKind) → Err kind ≡ opening below line → first_edit below number ls ≡ Err (fault number kind)
    unfolding first_edit
    edit-bad kind e = rw (first, sym e) refl

    pub edit-read : (h : Heading) (added : List (List ℕ)) (next : Ahead) → Ok h ≡ opening below line → added_at number h.action (ahead (number + 1) rest) ≡ Ok (added, next) → first_edit below number ls ≡ Ok (edit h added, next)
    unfolding first_edit
    edit-read h added next e f = rw (first, sym e, f) refl

    pub edit-fails : (wrong : FormFault) (h : Heading) → Ok h ≡ opening below line → Fails wrong (added_at number h.action (ahead (number + 1) rest)) → Fails wrong (first_edit below number ls)
    unfolding first_edit
    edit-fails errors.Memory h e f = tt
    edit-fails (errors.Malformed line kind) h e f = rw (first, sym e, f) refl
