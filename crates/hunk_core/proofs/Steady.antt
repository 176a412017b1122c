-- Reading that looks at one line after the other, and no further than where it stops.
use Rattle.std.proofs.Common.{◌≡◌, ◌≢◌, inl, inr, ℕ, ◌+◌, ◌≤◌, List, [], ◌∷◌, length, Option, None, Some, Result, Ok, Err, refl, sym, ap, subst, ◌∙◌, arith}
use Rattle.hunk_core.specs.declared.BadKind.TheVariants as kinds
use Rattle.hunk_core.specs.LineTests.{after_backslash}
use Rattle.hunk_core.specs.Reading.{◌>>=◌, Fault, fault, Ahead, ahead}
use Rattle.hunk_core.specs.FirstFault.{AgreeTo}
use Rattle.hunk_core.proofs.ReadSteps.{bind_ok, ok_is}
use Rattle.hunk_core.proofs.FaultSteps.{with_rest, failed, err_is, bind_err}
use Rattle.hunk_core.proofs.Agreeing.{agree_head, Hears, hears, agree_quiet, agree_loud}

-- what goes on over other lines as over these
pub record Goes {A : Type 0} (f : Ahead → Result (A × Ahead) Fault) (last number : ℕ) (others : List (List ℕ)) (x : A × Ahead) : Type 0 where
  pub rest : List (List ℕ)
  pub read : f (ahead number others) ≡ Ok (x.0, ahead x.1.number rest)
  pub agree : AgreeTo last x.1.number x.1.rest rest

-- a reading that fails looks no further than the line that decides its fault, and one that goes on doesn't look behind where it stops but for the line there
pub record SteadyTo (reach : Fault → ℕ) {A : Type 0} (f : Ahead → Result (A × Ahead) Fault) : Type 0 where
  pub low : (p : Ahead) (e : Fault) → f p ≡ Err e → (p.number ≤ reach e) × (e.kind ≡ kinds.ShortEnd → e.line ≡ p.number + length p.rest)
  pub up : (p : Ahead) (x : A × Ahead) → f p ≡ Ok x → (p.number ≤ x.1.number) × (x.1.number + length x.1.rest ≡ p.number + length p.rest)
  pub stays : (p : Ahead) (others : List (List ℕ)) (e : Fault) → f p ≡ Err e → e.kind ≢ kinds.ShortEnd → AgreeTo (reach e) p.number p.rest others → f (ahead p.number others) ≡ Err e
  pub goes : (last : ℕ) (p : Ahead) (others : List (List ℕ)) (x : A × Ahead) → f p ≡ Ok x → x.1.number ≤ last → AgreeTo last p.number p.rest others → Goes f last p.number others x

-- one reading after the other
pub steady-then : {reach : Fault → ℕ} {A B : Type 0} (f : Ahead → Result (A × Ahead) Fault) (g : A → Ahead → Result (B × Ahead) Fault) → SteadyTo reach f → ((a : A) → SteadyTo reach (g a)) → SteadyTo reach (λ p. f p >>= λ x. g x.0 x.1)
steady-then {reach = reach} {A = A} {B = B} f g one two = record {
  low = low;
  up = up;
  stays = stays;
  goes = goes;
}
  where
    low : (p : Ahead) (e : Fault) → (f p >>= λ x. g x.0 x.1) ≡ Err e → (p.number ≤ reach e) × (e.kind ≡ kinds.ShortEnd → e.line ≡ p.number + length p.rest)
    low p e h =
        elim (bind_err (f p) (λ x. g x.0 x.1) e h) [
          | inl bad ↦ one.low p e bad
          | inr good ↦ (
              let u = one.up p good.0 good.1 in
              let l = (two good.0.0).low good.0.1 e good.2 in
              (omega (arith, u.0, l.0), λ short. l.1 short ∙ u.1))
        ]

    up : (p : Ahead) (y : B × Ahead) → (f p >>= λ x. g x.0 x.1) ≡ Ok y → (p.number ≤ y.1.number) × (y.1.number + length y.1.rest ≡ p.number + length p.rest)
    up p y h =
        let a = bind_ok (f p) (λ x. g x.0 x.1) y h in
        let u = one.up p a.0 a.1 in
        let v = (two a.0.0).up a.0.1 y a.2 in
        (omega (arith, u.0, v.0), v.1 ∙ u.1)

    stays : (p : Ahead) (others : List (List ℕ)) (e : Fault) → (f p >>= λ x. g x.0 x.1) ≡ Err e → e.kind ≢ kinds.ShortEnd → AgreeTo (reach e) p.number p.rest others → (f (ahead p.number others) >>= λ x. g x.0 x.1) ≡ Err e
    stays p others e h long agree =
        elim (bind_err (f p) (λ x. g x.0 x.1) e h) [
          | inl bad ↦ rw (one.stays p others e bad long agree) refl
          | inr good ↦ (
              let l = (two good.0.0).low good.0.1 e good.2 in
              let go = one.goes (reach e) p others good.0 good.1 l.0 agree in
              rw go.read ((two good.0.0).stays good.0.1 go.rest e good.2 long go.agree))
        ]

    goes : (last : ℕ) (p : Ahead) (others : List (List ℕ)) (y : B × Ahead) → (f p >>= λ x. g x.0 x.1) ≡ Ok y → y.1.number ≤ last → AgreeTo last p.number p.rest others → Goes (λ q. f q >>= λ x. g x.0 x.1) last p.number others y
    goes last p others y h le agree =
        let a = bind_ok (f p) (λ x. g x.0 x.1) y h in
        let v = (two a.0.0).up a.0.1 y a.2 in
        let go = one.goes last p others a.0 a.1 (omega (arith, v.0, le)) agree in
        let on = (two a.0.0).goes last a.0.1 go.rest y a.2 le go.agree in
        record { rest = on.rest; read = rw go.read on.read; agree = on.agree }

-- nothing is read
pub steady-value : {reach : Fault → ℕ} {A : Type 0} (a : A) → SteadyTo reach (λ p. Ok (a, p))
steady-value {A = A} a = record {
  low = λ p e h. absurd (let bad : Ok (a, p) ≡ failed {A = A × Ahead} e = h in cc);
  up = λ p x h. let same : (a, p) ≡ x = ok_is _ _ h in subst (λ (y : A × Ahead). (p.number ≤ y.1.number) × (y.1.number + length y.1.rest ≡ p.number + length p.rest)) same (omega arith, refl);
  stays = λ p others e h long agree. absurd (let bad : Ok (a, p) ≡ failed {A = A × Ahead} e = h in cc);
  goes = λ last p others x h le agree. let same : (a, p) ≡ x = ok_is _ _ h in subst (λ (y : A × Ahead). Goes (λ q. Ok (a, q)) last p.number others y) same (record { rest = others; read = refl; agree = agree });
}

-- the same reading in other words
pub steady-same : {reach : Fault → ℕ} {A : Type 0} (f g : Ahead → Result (A × Ahead) Fault) → ((p : Ahead) → f p ≡ g p) → SteadyTo reach f → SteadyTo reach g
steady-same f g same s = record {
  low = λ p e h. s.low p e (same p ∙ h);
  up = λ p x h. s.up p x (same p ∙ h);
  stays = λ p others e h long agree. sym (same (ahead p.number others)) ∙ s.stays p others e (same p ∙ h) long agree;
  goes = λ last p others x h le agree. let go = s.goes last p others x (same p ∙ h) le agree in record { rest = go.rest; read = sym (same (ahead p.number others)) ∙ go.read; agree = go.agree };
}

-- one line is read: a value, or a fault of this line; the text must not end here
abbrev pub one_line : {A : Type 0} → (ℕ → List ℕ → Result A Fault) → ℕ → List (List ℕ) → Result (A × Ahead) Fault
one_line take number [] = Err (fault number kinds.ShortEnd)
one_line take number (line ∷ rest) = take number line >>= with_rest (ahead (number + 1) rest)

-- a fault that a line has by itself
abbrev pub FailsHere : {A : Type 0} → (ℕ → List ℕ → Result A Fault) → Type 0
FailsHere {A = A} take = (number : ℕ) (line : List ℕ) (e : Fault) → take number line ≡ Err e → (e.line ≡ number) × (e.kind ≢ kinds.ShortEnd)

pub line_err : {A : Type 0} (r : Result A Fault) (q : Ahead) (e : Fault) → (r >>= with_rest q) ≡ Err e → r ≡ Err e
line_err {A = A} (Ok a) q e h = absurd (let bad : Ok (a, q) ≡ failed {A = A × Ahead} e = h in cc)
line_err {A = A} (Err d) q e h = ap (λ x. Err x) (err_is {A = A × Ahead} d e h)

pub line_fails : {A : Type 0} (take : ℕ → List ℕ → Result A Fault) (number : ℕ) (line : List ℕ) (rest : List (List ℕ)) (e : Fault) → take number line ≡ Err e → one_line take number (line ∷ rest) ≡ Err e
line_fails take number line rest e bad = rw bad refl

pub line_gives : {A : Type 0} (take : ℕ → List ℕ → Result A Fault) (number : ℕ) (line : List ℕ) (rest : List (List ℕ)) (a : A) → take number line ≡ Ok a → one_line take number (line ∷ rest) ≡ Ok (a, ahead (number + 1) rest)
line_gives take number line rest a good = rw good refl

pub line-steady : {reach : Fault → ℕ} {A : Type 0} → ((e : Fault) → e.line ≤ reach e) → (take : ℕ → List ℕ → Result A Fault) → FailsHere take → SteadyTo reach (λ p. one_line take p.number p.rest)
line-steady {reach = reach} {A = A} far take here = record { low = λ p. low p.number p.rest; up = λ p. up p.number p.rest; stays = λ p. stays p.number p.rest; goes = λ last p. goes last p.number p.rest }
  where
    low : (number : ℕ) (lines : List (List ℕ)) (e : Fault) → one_line take number lines ≡ Err e → (number ≤ reach e) × (e.kind ≡ kinds.ShortEnd → e.line ≡ number + length lines)
    low number [] e h = let is : fault number kinds.ShortEnd ≡ e = err_is {A = A × Ahead} _ e h in (omega (arith, ap (λ (x : Fault). x.line) is, far e), λ _. omega (arith, ap (λ (x : Fault). x.line) is))
    low number (line ∷ rest) e h = let l = here number line e (line_err (take number line) (ahead (number + 1) rest) e h) in (omega (arith, l.0, far e), λ short. absurd (l.1 short))

    up : (number : ℕ) (lines : List (List ℕ)) (x : A × Ahead) → one_line take number lines ≡ Ok x → (number ≤ x.1.number) × (x.1.number + length x.1.rest ≡ number + length lines)
    up number [] x h = absurd cc
    up number (line ∷ rest) x h =
        let a = bind_ok (take number line) (with_rest (ahead (number + 1) rest)) x h in
        let same : (a.0, ahead (number + 1) rest) ≡ x = ok_is _ _ a.2 in
        subst (λ (y : A × Ahead). (number ≤ y.1.number) × (y.1.number + length y.1.rest ≡ number + length (line ∷ rest))) same (omega arith, omega arith)

    stays : (number : ℕ) (lines others : List (List ℕ)) (e : Fault) → one_line take number lines ≡ Err e → e.kind ≢ kinds.ShortEnd → AgreeTo (reach e) number lines others → one_line take number others ≡ Err e
    stays number [] others e h long agree = absurd (long (sym (ap (λ (x : Fault). x.kind) (err_is {A = A × Ahead} (fault number kinds.ShortEnd) e h))))
    stays number (line ∷ rest) others e h long agree =
        let bad = line_err (take number line) (ahead (number + 1) rest) e h in
        let head = agree_head (reach e) number line rest others agree (omega (arith, (here number line e bad).0, far e)) in
        ap (one_line take number) head.1 ∙ line_fails take number line head.0 e bad

    goes : (last number : ℕ) (lines others : List (List ℕ)) (x : A × Ahead) → one_line take number lines ≡ Ok x → x.1.number ≤ last → AgreeTo last number lines others → Goes (λ p. one_line take p.number p.rest) last number others x
    goes last number [] others x h le agree = absurd cc
    goes last number (line ∷ rest) others x h le agree =
        let a = bind_ok (take number line) (with_rest (ahead (number + 1) rest)) x h in
        let same : (a.0, ahead (number + 1) rest) ≡ x = ok_is _ _ a.2 in
        let up : number + 1 ≤ last = omega (arith, le, ap (λ (y : A × Ahead). y.1.number) same) in
        let head = agree_head last number line rest others agree (omega (arith, up)) in
        subst (λ (y : A × Ahead). Goes (λ p. one_line take p.number p.rest) last number others y) same (record { rest = head.0; read = ap (one_line take number) head.1 ∙ line_gives take number line head.0 a.0 a.1; agree = head.2 })

-- ---- a backslash line

-- behind a value no backslash line may stand, or one that makes it another value
abbrev pub peek_by : {A : Type 0} → A → Option A → Ahead → Option (List (List ℕ)) → Result (A × Ahead) Fault
peek_by a b p None = Ok (a, p)
peek_by a (Some b) p (Some more) = Ok (b, ahead (p.number + 1) more)
peek_by a None p (Some more) = Err (fault p.number kinds.MisplacedBackslash)

pub peek-steady : {reach : Fault → ℕ} {A : Type 0} → ((e : Fault) → e.line ≤ reach e) → (a : A) (b : Option A) → SteadyTo reach (λ p. peek_by a b p (after_backslash p.rest))
peek-steady {reach = reach} {A = A} far a b = record {
  low = λ p e h. low b p (after_backslash p.rest) e h;
  up = λ p x h. up b p (after_backslash p.rest) x (hears p.rest) h;
  stays = λ p others e h long agree. stays b p others (after_backslash p.rest) e (hears p.rest) h agree;
  goes = λ last p others x h le agree. goes b last p others (after_backslash p.rest) x refl (hears p.rest) h le agree;
}
  where
    low : (b : Option A) (p : Ahead) (o : Option (List (List ℕ))) (e : Fault) → peek_by a b p o ≡ Err e → (p.number ≤ reach e) × (e.kind ≡ kinds.ShortEnd → e.line ≡ p.number + length p.rest)
    low b p None e h = absurd (let bad : Ok (a, p) ≡ failed {A = A × Ahead} e = h in cc)
    low (Some c) p (Some more) e h = absurd (let bad : Ok (c, ahead (p.number + 1) more) ≡ failed {A = A × Ahead} e = h in cc)
    low None p (Some more) e h =
        let is : fault p.number kinds.MisplacedBackslash ≡ e = err_is {A = A × Ahead} _ e h in
        (omega (arith, ap (λ (x : Fault). x.line) is, far e), λ short. absurd (let bad : kinds.MisplacedBackslash ≡ kinds.ShortEnd = ap (λ (x : Fault). x.kind) is ∙ short in cc))

    up : (b : Option A) (p : Ahead) (o : Option (List (List ℕ))) (x : A × Ahead) → Hears p.rest o → peek_by a b p o ≡ Ok x → (p.number ≤ x.1.number) × (x.1.number + length x.1.rest ≡ p.number + length p.rest)
    up b p None x heard h = let same : (a, p) ≡ x = ok_is _ _ h in subst (λ (y : A × Ahead). (p.number ≤ y.1.number) × (y.1.number + length y.1.rest ≡ p.number + length p.rest)) same (omega arith, refl)
    up (Some c) p (Some more) x heard h =
        let same : (c, ahead (p.number + 1) more) ≡ x = ok_is _ _ h in
        subst (λ (y : A × Ahead). (p.number ≤ y.1.number) × (y.1.number + length y.1.rest ≡ p.number + length p.rest)) same (omega arith, omega (arith, ap length heard.parts))
    up None p (Some more) x heard h = absurd cc

    stays : (b : Option A) (p : Ahead) (others : List (List ℕ)) (o : Option (List (List ℕ))) (e : Fault) → Hears p.rest o → peek_by a b p o ≡ Err e → AgreeTo (reach e) p.number p.rest others → peek_by a b (ahead p.number others) (after_backslash others) ≡ Err e
    stays b p others None e heard h agree = absurd (let bad : Ok (a, p) ≡ failed {A = A × Ahead} e = h in cc)
    stays (Some c) p others (Some more) e heard h agree = absurd (let bad : Ok (c, ahead (p.number + 1) more) ≡ failed {A = A × Ahead} e = h in cc)
    stays None p others (Some more) e heard h agree =
        let is : fault p.number kinds.MisplacedBackslash ≡ e = err_is {A = A × Ahead} _ e h in
        let l = agree_loud (reach e) p.number p.rest others more heard agree (omega (arith, ap (λ (x : Fault). x.line) is, far e)) in
        rw (l.1, is) refl

    goes : (b : Option A) (last : ℕ) (p : Ahead) (others : List (List ℕ)) (o : Option (List (List ℕ))) (x : A × Ahead) → after_backslash p.rest ≡ o → Hears p.rest o → peek_by a b p o ≡ Ok x → x.1.number ≤ last → AgreeTo last p.number p.rest others → Goes (λ q. peek_by a b q (after_backslash q.rest)) last p.number others x
    goes b last p others None x quiet heard h le agree =
        let same : (a, p) ≡ x = ok_is _ _ h in
        let here : p.number ≤ last = omega (arith, le, ap (λ (y : A × Ahead). y.1.number) same) in
        let still = agree_quiet last p.number p.rest others agree here quiet in
        subst (λ (y : A × Ahead). Goes (λ q. peek_by a b q (after_backslash q.rest)) last p.number others y) same (record { rest = others; read = rw still refl; agree = agree })
    goes (Some c) last p others (Some more) x quiet heard h le agree =
        let same : (c, ahead (p.number + 1) more) ≡ x = ok_is _ _ h in
        let here : p.number ≤ last = omega (arith, le, ap (λ (y : A × Ahead). y.1.number) same) in
        let l = agree_loud last p.number p.rest others more heard agree here in
        subst (λ (y : A × Ahead). Goes (λ q. peek_by a (Some c) q (after_backslash q.rest)) last p.number others y) same (record { rest = l.0; read = rw l.1 refl; agree = l.2 })
    goes None last p others (Some more) x quiet heard h le agree = absurd cc
