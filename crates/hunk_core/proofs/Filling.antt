-- A fault within the lines that were taken, and what stands in front of it.
use Rattle.std.proofs.Common.{◌+◌, length, ◌≢◌, ◌<◌, ◌≡◌, ℕ, ◌-◌, List, [], take, refl, arith, ◌≤◌, ◌++◌, ap, ◌∙◌, append_assoc, sym, ◌∷◌}
use Rattle.hunk_core.proofs.FaultSteps.{failed, err_is}
use Rattle.hunk_core.specs.Reading.{Fault, Ahead, ahead, fault}
use Rattle.std.proofs.Math.Seq.{take-append-add, take-append_seam}
use Rattle.std.proofs.lemmas.List.{append-nil, length-append}
use Rattle.hunk_core.specs.declared.BadKind.TheVariants as kinds

-- a fault lies in one of the lines, unless the text ends too early
abbrev pub IsInside : Ahead → Fault → Type 0
IsInside p e = e.kind ≢ kinds.ShortEnd → e.line < p.number + length p.rest

pub none_in_front : (at number : ℕ) (lines : List (List ℕ)) → at ≡ number → take (at - number) lines ≡ []
none_in_front at number lines e = let none : at - number ≡ 0 = omega (arith, e) in rw none refl

-- lines that were taken stand in front of a fault that comes behind them
pub front_past : (at number next : ℕ) (lines own rest : List (List ℕ)) → lines ≡ own ++ rest → next ≡ number + length own → next ≤ at → take (at - number) lines ≡ own ++ take (at - next) rest
front_past at number next lines own rest parts count le =
    let k : at - number ≡ length own + (at - next) = omega (arith, count, le) in
    rw (parts, k) (take-append-add own rest (at - next))

pub front_with : (at number next : ℕ) (lines own rest others : List (List ℕ)) → lines ≡ own ++ rest → next ≡ number + length own → next ≤ at → take (at - number) lines ++ others ≡ own ++ (take (at - next) rest ++ others)
front_with at number next lines own rest others parts count le =
    ap (λ (ls : List (List ℕ)). ls ++ others) (front_past at number next lines own rest parts count le) ∙ append_assoc own (take (at - next) rest) others

pub whole_front : (number : ℕ) (lines : List (List ℕ)) (at : ℕ) → at ≡ number + length lines → take (at - number) lines ≡ lines
whole_front number lines at e =
    let k : at - number ≡ length lines = omega (arith, e) in
    ap (λ n. take n lines) k ∙ ap (take (length lines)) (sym (append-nil lines)) ∙ take-append_seam lines []

pub first_inside : (number : ℕ) (line : List ℕ) (rest : List (List ℕ)) (e : Fault) → e.line ≡ number → IsInside (ahead number (line ∷ rest)) e
first_inside number line rest e here long = omega (arith, here)

pub past_inside : (p q : Ahead) (e : Fault) (own : List (List ℕ)) → p.rest ≡ own ++ q.rest → q.number ≡ p.number + length own → IsInside q e → IsInside p e
past_inside p q e own parts number more long = omega (arith, more long, number, ap length parts, length-append own q.rest)

pub none_inside : {A : Type 0} (number : ℕ) (e : Fault) → failed {A = A} (fault number kinds.ShortEnd) ≡ failed e → IsInside (ahead number []) e
none_inside {A = A} number e h long = absurd (long (sym (ap (λ (x : Fault). x.kind) (err_is {A = A} (fault number kinds.ShortEnd) e h))))
