-- Readings of the context form: a fault is decided by its own line, or by the one behind it.
use Rattle.std.proofs.Common.{◌≡◌, ◌≢◌, ℕ, ◌+◌, ◌-◌, ◌≤◌, Bool, cond, List, [], ◌∷◌, length, Option, Result, Ok, Err, ap, ◌∙◌, arith, inl, inr}
use Rattle.hunk_core.specs.declared.BadKind.{BadKind}
use Rattle.hunk_core.specs.declared.BadKind.TheVariants as kinds
use Rattle.hunk_core.specs.LineTests.{after_backslash}
use Rattle.hunk_core.specs.Reading.{Fault, fault, Ahead, ahead}
use Rattle.hunk_core.specs.FirstFault.{AgreeTo}
use Rattle.line_list.proofs.Choices.{chosen}
use Rattle.hunk_core.proofs.FaultSteps.{failed, err_is}
use Rattle.hunk_core.proofs.Agreeing.{agree_head}
use Rattle.hunk_core.proofs.Steady.{Goes, SteadyTo, one_line, FailsHere, line-steady, peek_by, peek-steady}
use Rattle.context_form.specs.FirstFault.{lines_behind, reach}

-- a reading that looks no further than its fault reaches
abbrev pub Steady : {A : Type 0} → (Ahead → Result (A × Ahead) Fault) → Type 0
Steady f = SteadyTo reach f

pub steady-line : {A : Type 0} (take : ℕ → List ℕ → Result A Fault) → FailsHere take → Steady (λ p. one_line take p.number p.rest)
steady-line take here = line-steady (λ e. omega arith) take here

pub steady-peek : {A : Type 0} (a : A) (b : Option A) → Steady (λ p. peek_by a b p (after_backslash p.rest))
steady-peek a b = peek-steady (λ e. omega arith) a b

-- a test that looks at the first line alone
pub record LooksAhead (test : List (List ℕ) → Bool) : Type 0 where
  pub same : (line : List ℕ) (rest others : List (List ℕ)) → test (line ∷ rest) ≡ test (line ∷ others)

test_agrees : (test : List (List ℕ) → Bool) → LooksAhead test → (last number : ℕ) (lines others : List (List ℕ)) → number ≤ last → AgreeTo last number lines others → test others ≡ test lines
test_agrees test looks last number [] others le agree = absurd (omega (arith, le, agree))
test_agrees test looks last number (line ∷ rest) others le agree = let a = agree_head last number line rest others agree le in ap test a.1 ∙ looks.same line a.0 rest

-- one of two readings, by a test on the first line
pub steady-test : {A : Type 0} (test : List (List ℕ) → Bool) (f g : Ahead → Result (A × Ahead) Fault) → LooksAhead test → Steady f → Steady g → Steady (λ p. cond (test p.rest) (f p) (g p))
steady-test {A = A} test f g looks one two = record { low = low; up = up; stays = stays; goes = goes }
  where
    low : (p : Ahead) (e : Fault) → cond (test p.rest) (f p) (g p) ≡ Err e → (p.number ≤ reach e) × (e.kind ≡ kinds.ShortEnd → e.line ≡ p.number + length p.rest)
    low p e h = elim (chosen (test p.rest) (f p) (g p) (Err e) h) [
      | inl yes_it ↦ one.low p e yes_it.1
      | inr no_it ↦ two.low p e no_it.1
    ]

    up : (p : Ahead) (x : A × Ahead) → cond (test p.rest) (f p) (g p) ≡ Ok x → (p.number ≤ x.1.number) × (x.1.number + length x.1.rest ≡ p.number + length p.rest)
    up p x h = elim (chosen (test p.rest) (f p) (g p) (Ok x) h) [
      | inl yes_it ↦ one.up p x yes_it.1
      | inr no_it ↦ two.up p x no_it.1
    ]

    stays : (p : Ahead) (others : List (List ℕ)) (e : Fault) → cond (test p.rest) (f p) (g p) ≡ Err e → e.kind ≢ kinds.ShortEnd → AgreeTo (reach e) p.number p.rest others → cond (test others) (f (ahead p.number others)) (g (ahead p.number others)) ≡ Err e
    stays p others e h long agree =
        let same : test others ≡ test p.rest = test_agrees test looks (reach e) p.number p.rest others (low p e h).0 agree in
        elim (chosen (test p.rest) (f p) (g p) (Err e) h) [
          | inl yes_it ↦ ap (λ b. cond b (f (ahead p.number others)) (g (ahead p.number others))) (same ∙ yes_it.0) ∙ one.stays p others e yes_it.1 long agree
          | inr no_it ↦ ap (λ b. cond b (f (ahead p.number others)) (g (ahead p.number others))) (same ∙ no_it.0) ∙ two.stays p others e no_it.1 long agree
        ]

    goes : (last : ℕ) (p : Ahead) (others : List (List ℕ)) (x : A × Ahead) → cond (test p.rest) (f p) (g p) ≡ Ok x → x.1.number ≤ last → AgreeTo last p.number p.rest others → Goes (λ q. cond (test q.rest) (f q) (g q)) last p.number others x
    goes last p others x h le agree =
        let same : test others ≡ test p.rest = test_agrees test looks last p.number p.rest others (omega (arith, le, (up p x h).0)) agree in
        elim (chosen (test p.rest) (f p) (g p) (Ok x) h) [
          | inl yes_it ↦ (let go = one.goes last p others x yes_it.1 le agree in record { rest = go.rest; read = ap (λ b. cond b (f (ahead p.number others)) (g (ahead p.number others))) (same ∙ yes_it.0) ∙ go.read; agree = go.agree })
          | inr no_it ↦ (let go = two.goes last p others x no_it.1 le agree in record { rest = go.rest; read = ap (λ b. cond b (f (ahead p.number others)) (g (ahead p.number others))) (same ∙ no_it.0) ∙ go.read; agree = go.agree })
        ]

-- a fault of the line before
pub steady-before : {A : Type 0} (kind : BadKind) → lines_behind kind ≡ 1 → kind ≢ kinds.ShortEnd → Steady {A = A} (λ p. Err (fault (p.number - 1) kind))
steady-before {A = A} kind one long = record { low = low; up = up; stays = stays; goes = goes }
  where
    low : (p : Ahead) (e : Fault) → failed {A = A × Ahead} (fault (p.number - 1) kind) ≡ Err e → (p.number ≤ reach e) × (e.kind ≡ kinds.ShortEnd → e.line ≡ p.number + length p.rest)
    low p e h =
        let is : fault (p.number - 1) kind ≡ e = err_is {A = A × Ahead} _ e h in
        let far : (p.number - 1) + lines_behind kind ≡ reach e = ap (λ (x : Fault). reach x) is in
        (omega (arith, far, one), λ short. absurd (long (ap (λ (x : Fault). x.kind) is ∙ short)))

    up : (p : Ahead) (x : A × Ahead) → failed {A = A × Ahead} (fault (p.number - 1) kind) ≡ Ok x → (p.number ≤ x.1.number) × (x.1.number + length x.1.rest ≡ p.number + length p.rest)
    up p x h = absurd cc

    stays : (p : Ahead) (others : List (List ℕ)) (e : Fault) → failed {A = A × Ahead} (fault (p.number - 1) kind) ≡ Err e → e.kind ≢ kinds.ShortEnd → AgreeTo (reach e) p.number p.rest others → failed {A = A × Ahead} (fault (p.number - 1) kind) ≡ Err e
    stays p others e h l agree = h

    goes : (last : ℕ) (p : Ahead) (others : List (List ℕ)) (x : A × Ahead) → failed {A = A × Ahead} (fault (p.number - 1) kind) ≡ Ok x → x.1.number ≤ last → AgreeTo last p.number p.rest others → Goes (λ q. Err (fault (q.number - 1) kind)) last p.number others x
    goes last p others x h le agree = absurd cc
