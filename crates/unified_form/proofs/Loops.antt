-- Reading one thing after the other, as a loop does.
use Rattle.std.proofs.Common.{◌≡◌, ℕ, zero, suc, ◌-◌, ◌+◌, ◌≤◌, ◌<◌, false, eqb, List, [], ◌∷◌, ◌++◌, Result, Ok, Err, refl, sym, ap, ◌∙◌, arith}
use Rattle.std.proofs.lemmas.List.{append-nil}
use Rattle.hunk_core.specs.declared.fault.FormFault.{FormFault}
use Rattle.hunk_core.specs.declared.fault.FormFault.TheVariants as errors
use Rattle.hunk_core.specs.PlainHunk.{Marked}
use Rattle.hunk_core.proofs.ReadSteps.{with_front, front_none, regroup}
use Rattle.hunk_core.specs.Reading.{◌>>=◌, Fault, Fails, Ahead}
use Rattle.unified_form.specs.declared.body.Left.{Left}
use Rattle.unified_form.specs.Bodies.{line_at, body_at}

-- these lines were read of a body, and what is left gives the whole
pub record BodySoFar (front : List Marked) (left : Left) (p : Ahead) (total : Result (List Marked × Ahead) Fault) : Type 0 where
  pub most : ℕ
  pub enough : left.old + left.new ≤ most
  pub same : with_front front (body_at most left p) ≡ total

pub body_begins : (left : Left) (p : Ahead) → BodySoFar [] left p (body_at (left.old + left.new) left p)
body_begins left p = record { most = left.old + left.new; enough = omega arith; same = front_none (body_at (left.old + left.new) left p) }

step : (most : ℕ) (left : Left) (p : Ahead) → 0 < left.old + left.new → body_at (suc most) left p ≡ (line_at left p >>= λ first. body_at most first.1 first.2 >>= λ others. Ok (first.0 ∷ others.0, others.1))
unfolding body_at
step most left p some =
    let more : eqb (left.old + left.new) 0 ≡ false = grind arith in
    rw more refl

pub body_goes_on : (front : List Marked) (left : Left) (p : Ahead) (x : Marked × Left × Ahead) (total : Result (List Marked × Ahead) Fault) → 0 < left.old + left.new → x.1.old + x.1.new < left.old + left.new → line_at left p ≡ Ok x
    → BodySoFar front left p total → BodySoFar (front ++ x.0 ∷ []) x.1 x.2 total
body_goes_on front left p x total some less read so_far =
    let most = so_far.most in
    let k : most ≡ suc (most - 1) = omega (arith, so_far.enough) in
    let one : with_front front (body_at most left p) ≡ with_front (front ++ x.0 ∷ []) (body_at (most - 1) x.1 x.2) = ap (λ m. with_front front (body_at m left p)) k ∙ rw (step (most - 1) left p some, read) (regroup front x.0 (body_at (most - 1) x.1 x.2)) in
    record { most = most - 1; enough = omega (arith, so_far.enough); same = sym one ∙ so_far.same }

pub body_fails : (e : FormFault) (front : List Marked) (left : Left) (p : Ahead) (total : Result (List Marked × Ahead) Fault) → 0 < left.old + left.new → Fails e (line_at left p) → BodySoFar front left p total → Fails e total
body_fails errors.Memory front left p total some h so_far = tt
body_fails (errors.Malformed line kind) front left p total some h so_far =
    let k : so_far.most ≡ suc (so_far.most - 1) = omega (arith, so_far.enough) in
    let one : with_front front (body_at so_far.most left p) ≡ Err (record { line = line; kind = kind }) = ap (λ m. with_front front (body_at m left p)) k ∙ rw (step (so_far.most - 1) left p some, h) refl in
    sym so_far.same ∙ one

pub body_empty : (most : ℕ) (left : Left) (p : Ahead) → left.old + left.new ≡ 0 → body_at most left p ≡ Ok ([], p)
unfolding body_at
body_empty zero left p none = refl
body_empty (suc most) left p none = rw none refl

pub body_done : (front : List Marked) (left : Left) (p : Ahead) (total : Result (List Marked × Ahead) Fault) → left.old + left.new ≡ 0 → BodySoFar front left p total → total ≡ Ok (front, p)
body_done front left p total none so_far = sym so_far.same ∙ rw (body_empty so_far.most left p none) (ap (λ ns. Ok (ns, p)) (append-nil front))
