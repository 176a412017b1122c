-- A named line, behind more lines.
use Rattle.std.proofs.Common.{◌≡◌, ◌≢◌, ℕ, ◌+◌, List, [], ◌∷◌, ◌++◌, length, Result, Ok, Err, refl, sym, ap, ◌∙◌, append_assoc, arith}
use Rattle.std.proofs.lemmas.List.{length-append}
use Rattle.hunk_core.specs.declared.BadKind.TheVariants as kinds
use Rattle.hunk_core.specs.Reading.{◌>>=◌, Fault, fault, Ahead}
use Rattle.hunk_core.proofs.FaultSteps.{failed, err_is, add}
use Rattle.law_faults.specs.NamedLines.{NamesLine}

-- ---- steps that fail
pub add_err : {X : Type 0} (x : X) (r : Result (List X × Ahead) Fault) (e : Fault) → (r >>= add x) ≡ Err e → r ≡ Err e
add_err x (Ok y) e h = absurd cc
add_err {X = X} x (Err d) e h = ap (λ x. Err x) (err_is {A = List X × Ahead} d e h)

pub ends_short : {A B : Type 0} (number : ℕ) (e : Fault) → failed {A = A} (fault number kinds.ShortEnd) ≡ failed e → e.kind ≢ kinds.ShortEnd → B
ends_short {A = A} number e h long = absurd (long (sym (ap (λ (x : Fault). x.kind) (err_is {A = A} (fault number kinds.ShortEnd) e h))))

-- ---- the first line, and one behind others

pub named-here : (Holds : List (List ℕ) → List ℕ → List (List ℕ) → Type 0) (number : ℕ) (line : List ℕ) (rest : List (List ℕ)) (named : ℕ) → named ≡ number → Holds [] line rest → NamesLine Holds number (line ∷ rest) named
named-here Holds number line rest named here holds = record { front = []; line = line; behind = rest; parts = refl; counted = omega (arith, here); holds = holds }

pub named-past : (Holds More : List (List ℕ) → List ℕ → List (List ℕ) → Type 0) (own : List (List ℕ)) (number next : ℕ) (lines rest : List (List ℕ)) (named : ℕ) → lines ≡ own ++ rest → next ≡ number + length own
    → ((front : List (List ℕ)) (line : List ℕ) (behind : List (List ℕ)) → rest ≡ front ++ line ∷ behind → Holds front line behind → More (own ++ front) line behind) → NamesLine Holds next rest named → NamesLine More number lines named
named-past Holds More own number next lines rest named parts count on n = record {
  front = own ++ n.front;
  line = n.line;
  behind = n.behind;
  parts = parts ∙ ap (λ (ls : List (List ℕ)). own ++ ls) n.parts ∙ sym (append_assoc own n.front (n.line ∷ n.behind));
  counted = omega (arith, n.counted, count, length-append own n.front);
  holds = on n.front n.line n.behind n.parts n.holds;
}

-- ---- backslash lines
