-- How a hunk fails: in its parts, over both of them, or by a backslash line behind them.
use Rattle.std.proofs.Common.{◌≡◌, ◌≢◌, ◌⊎◌, inl, inr, ℕ, ◌+◌, Bool, true, false, cond, ltb, not, List, [], ◌∷◌, Option, None, Some, Ok, Err, refl, sym, ap, ◌∙◌}
use Rattle.hunk_core.specs.declared.BadKind.{BadKind}
use Rattle.hunk_core.specs.declared.BadKind.TheVariants as kinds
use Rattle.hunk_core.specs.PlainHunk.{Marked, PlainHunk}
use Rattle.std.specs.Prelude.{is_some}
use Rattle.hunk_core.specs.LineTests.{after_backslash}
use Rattle.hunk_core.specs.Reading.{◌>>=◌, Fault, fault, Ahead, ahead}
use Rattle.hunk_core.proofs.ReadSteps.{bind_ok, guard_ok, ok_is}
use Rattle.hunk_core.proofs.FaultSteps.{failed, bind_err, err_is}
use Rattle.context_form.specs.Openings.{begins_hunk}
use Rattle.context_form.specs.Ranges.{is_count}
use Rattle.context_form.specs.Merging.{joined, size_beside}
use Rattle.context_form.specs.Hunks.{quiet, PlainPart, sized, agreed, whole, parts_at, first_hunk, hunk_at}
use Rattle.context_form.specs.FirstFault.{behind_first}
use Rattle.context_form.proofs.Halves.{made}

-- ---- how a hunk fails
-- a fault over two whole parts is none of these
pub record IsOverParts (e : Fault) : Type 0 where
  pub long : e.kind ≢ kinds.ShortEnd
  pub known : e.kind ≢ kinds.Count → e.kind ≢ kinds.NumberTooLarge → e.kind ≢ kinds.SidesDiffer → ⊥

over-count : (e : Fault) → e.kind ≡ kinds.Count → IsOverParts e
over-count e is = record { long = λ h. absurd (let bad : kinds.Count ≡ kinds.ShortEnd = sym is ∙ h in cc); known = λ a b c. a is }

over-large : (e : Fault) → e.kind ≡ kinds.NumberTooLarge → IsOverParts e
over-large e is = record { long = λ h. absurd (let bad : kinds.NumberTooLarge ≡ kinds.ShortEnd = sym is ∙ h in cc); known = λ a b c. b is }

over-sides : (e : Fault) → e.kind ≡ kinds.SidesDiffer → IsOverParts e
over-sides e is = record { long = λ h. absurd (let bad : kinds.SidesDiffer ≡ kinds.ShortEnd = sym is ∙ h in cc); known = λ a b c. c is }

kind-of : {A : Type 0} (number : ℕ) (kind : BadKind) (e : Fault) → failed {A = A} (fault number kind) ≡ failed e → e.kind ≡ kind
kind-of number kind e h = cc

sized-over : (part partner : PlainPart) (e : Fault) → sized part partner ≡ Err e → IsOverParts e
sized-over part partner e h = by (not (is_count part.stated (size_beside part.body partner.body))) (ltb 4294967295 (part.stated.start + size_beside part.body partner.body)) h
  where
    by : (a b : Bool) → cond a (Err (fault part.number kinds.Count)) (cond b (Err (fault part.number kinds.NumberTooLarge)) (Ok tt)) ≡ failed {A = Unit {0}} e → IsOverParts e
    by true b k = over-count e (kind-of {A = Unit {0}} part.number kinds.Count e k)
    by false true k = over-large e (kind-of {A = Unit {0}} part.number kinds.NumberTooLarge e k)
    by false false k = absurd cc

agreed-over : (number : ℕ) (o : Option (List Marked)) (e : Fault) → agreed number o ≡ Err e → IsOverParts e
agreed-over number None e h = over-sides e (kind-of {A = List Marked} number kinds.SidesDiffer e h)
agreed-over number (Some body) e h = absurd cc

no-err : {A : Type 0} (a : A) (e : Fault) → Ok a ≡ failed {A = A} e → ⊥
no-err a e h = cc

pub whole-over : (old new : PlainPart) (e : Fault) → whole old new ≡ Err e → IsOverParts e
unfolding whole
whole-over old new e h =
    elim (bind_err (sized old new) (λ x. sized new old >>= λ y. agreed new.number (joined old.body new.body) >>= λ body. Ok (made old new body)) e h) [
      | inl bad ↦ sized-over old new e bad
      | inr good ↦ elim (bind_err (sized new old) (λ y. agreed new.number (joined old.body new.body) >>= λ body. Ok (made old new body)) e good.2) [
        | inl bad ↦ sized-over new old e bad
        | inr fine ↦ elim (bind_err (agreed new.number (joined old.body new.body)) (λ body. Ok (made old new body)) e fine.2) [
          | inl bad ↦ agreed-over new.number (joined old.body new.body) e bad
          | inr none ↦ absurd (no-err (made old new none.0) e none.2)
        ]
      ]
    ]

-- a backslash line stands behind a hunk that is whole
pub record FailsBehind (least : ℕ) (p : Ahead) (e : Fault) : Type 0 where
  pub parts : (PlainPart × PlainPart) × Ahead
  pub hunk : PlainHunk
  pub read : parts_at least (behind_first p.number p.rest) ≡ Ok parts
  pub good : whole parts.0.0 parts.0.1 ≡ Ok hunk
  pub loud : is_some (after_backslash parts.1.rest) ≡ true
  pub is : fault parts.1.number kinds.MisplacedBackslash ≡ e

-- a hunk fails in its parts, or over them
pub record FailsWhole (least : ℕ) (p : Ahead) (e : Fault) : Type 0 where
  pub parts : (PlainPart × PlainPart) × Ahead
  pub read : parts_at least (behind_first p.number p.rest) ≡ Ok parts
  pub bad : whole parts.0.0 parts.0.1 ≡ Err e

loud-is : (q : Ahead) (e : Fault) → quiet q ≡ Err e → (is_some (after_backslash q.rest) ≡ true) × (fault q.number kinds.MisplacedBackslash ≡ e)
loud-is q e h = by (is_some (after_backslash q.rest)) refl h
  where
    by : (b : Bool) → is_some (after_backslash q.rest) ≡ b → cond b (Err (fault q.number kinds.MisplacedBackslash)) (Ok tt) ≡ failed {A = Unit {0}} e → (is_some (after_backslash q.rest) ≡ true) × (fault q.number kinds.MisplacedBackslash ≡ e)
    by true is k = (is, err_is {A = Unit {0}} _ e k)
    by false is k = absurd cc

pub hunk-fails : (least : ℕ) (p : Ahead) (e : Fault) → begins_hunk p.rest ≡ true → hunk_at least p ≡ Err e → (parts_at least (behind_first p.number p.rest) ≡ Err e) ⊎ (FailsWhole least p e ⊎ FailsBehind least p e)
unfolding first_hunk
hunk-fails least p e begins h = by p.number p.rest begins h
  where
    by : (number : ℕ) (lines : List (List ℕ)) → begins_hunk lines ≡ true → first_hunk least number lines ≡ Err e → (parts_at least (behind_first number lines) ≡ Err e) ⊎ (FailsWhole least (ahead number lines) e ⊎ FailsBehind least (ahead number lines) e)
    by number [] b k = absurd cc
    by number (line ∷ rest) b k =
        elim (bind_err (parts_at least (ahead (number + 1) rest)) (λ parts. whole parts.0.0 parts.0.1 >>= λ g. quiet parts.1 >>= λ done. Ok (g, parts.1)) e k) [
          | inl bad ↦ inl bad
          | inr good ↦ elim (bind_err (whole good.0.0.0 good.0.0.1) (λ g. quiet good.0.1 >>= λ done. Ok (g, good.0.1)) e good.2) [
            | inl bad ↦ inr (inl (record { parts = good.0; read = good.1; bad = bad }))
            | inr fine ↦ elim (bind_err (quiet good.0.1) (λ done. Ok (fine.0, good.0.1)) e fine.2) [
              | inl bad ↦ (let l = loud-is good.0.1 e bad in inr (inr (record { parts = good.0; hunk = fine.0; read = good.1; good = fine.1; loud = l.0; is = l.1 })))
              | inr none ↦ absurd (no-err (fine.0, good.0.1) e none.2)
            ]
          ]
        ]

pub record ReadsWhole (least : ℕ) (p : Ahead) (x : PlainHunk × Ahead) : Type 0 where
  pub parts : (PlainPart × PlainPart) × Ahead
  pub read : parts_at least (behind_first p.number p.rest) ≡ Ok parts
  pub good : whole parts.0.0 parts.0.1 ≡ Ok x.0
  pub same : parts.1 ≡ x.1
  pub silent : is_some (after_backslash parts.1.rest) ≡ false

pub hunk-reads : (least : ℕ) (p : Ahead) (x : PlainHunk × Ahead) → hunk_at least p ≡ Ok x → ReadsWhole least p x
unfolding first_hunk
hunk-reads least p x h = by p.number p.rest h
  where
    by : (number : ℕ) (lines : List (List ℕ)) → first_hunk least number lines ≡ Ok x → ReadsWhole least (ahead number lines) x
    by number [] k = absurd cc
    by number (line ∷ rest) k =
        let a = bind_ok (parts_at least (ahead (number + 1) rest)) (λ parts. whole parts.0.0 parts.0.1 >>= λ g. quiet parts.1 >>= λ done. Ok (g, parts.1)) x k in
        let b = bind_ok (whole a.0.0.0 a.0.0.1) (λ g. quiet a.0.1 >>= λ done. Ok (g, a.0.1)) x a.2 in
        let c = bind_ok (quiet a.0.1) (λ done. Ok (b.0, a.0.1)) x b.2 in
        let g = guard_ok (is_some (after_backslash a.0.1.rest)) _ tt c.0 c.1 in
        let s : (b.0, a.0.1) ≡ x = ok_is _ _ c.2 in
        record { parts = a.0; read = a.1; good = b.1 ∙ ap (λ (y : PlainHunk × Ahead). Ok y.0) s; same = ap (λ (y : PlainHunk × Ahead). y.1) s; silent = g.0 }

-- a hunk by its parts
pub hunk-bad : (least : ℕ) (p : Ahead) (e : Fault) → begins_hunk p.rest ≡ true → parts_at least (behind_first p.number p.rest) ≡ Err e → hunk_at least p ≡ Err e
unfolding first_hunk
hunk-bad least p e begins h = by p.number p.rest begins h
  where
    by : (number : ℕ) (lines : List (List ℕ)) → begins_hunk lines ≡ true → parts_at least (behind_first number lines) ≡ Err e → first_hunk least number lines ≡ Err e
    by number [] b k = absurd cc
    by number (line ∷ rest) b k = rw k refl

pub hunk-over : (least : ℕ) (p : Ahead) (x : (PlainPart × PlainPart) × Ahead) (e : Fault) → begins_hunk p.rest ≡ true → parts_at least (behind_first p.number p.rest) ≡ Ok x → whole x.0.0 x.0.1 ≡ Err e → hunk_at least p ≡ Err e
unfolding first_hunk
hunk-over least p x e begins h bad = by p.number p.rest begins h
  where
    by : (number : ℕ) (lines : List (List ℕ)) → begins_hunk lines ≡ true → parts_at least (behind_first number lines) ≡ Ok x → first_hunk least number lines ≡ Err e
    by number [] b k = absurd cc
    by number (line ∷ rest) b k = rw (k, bad) refl

pub hunk-good : (least : ℕ) (p : Ahead) (x : (PlainPart × PlainPart) × Ahead) (h : PlainHunk) → begins_hunk p.rest ≡ true → parts_at least (behind_first p.number p.rest) ≡ Ok x → whole x.0.0 x.0.1 ≡ Ok h → is_some (after_backslash x.1.rest) ≡ false → hunk_at least p ≡ Ok (h, x.1)
unfolding first_hunk
hunk-good least p x h begins e good silent = by p.number p.rest begins e
  where
    by : (number : ℕ) (lines : List (List ℕ)) → begins_hunk lines ≡ true → parts_at least (behind_first number lines) ≡ Ok x → first_hunk least number lines ≡ Ok (h, x.1)
    by number [] b k = absurd cc
    by number (line ∷ rest) b k = rw (k, good, silent) refl

pub hunk-loud : (least : ℕ) (p : Ahead) (x : (PlainPart × PlainPart) × Ahead) (h : PlainHunk) → begins_hunk p.rest ≡ true → parts_at least (behind_first p.number p.rest) ≡ Ok x → whole x.0.0 x.0.1 ≡ Ok h → is_some (after_backslash x.1.rest) ≡ true → hunk_at least p ≡ Err (fault x.1.number kinds.MisplacedBackslash)
unfolding first_hunk
hunk-loud least p x h begins e good loud = by p.number p.rest begins e
  where
    by : (number : ℕ) (lines : List (List ℕ)) → begins_hunk lines ≡ true → parts_at least (behind_first number lines) ≡ Ok x → first_hunk least number lines ≡ Err (fault x.1.number kinds.MisplacedBackslash)
    by number [] b k = absurd cc
    by number (line ∷ rest) b k = rw (k, good, loud) refl
