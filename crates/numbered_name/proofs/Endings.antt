-- What stands behind a name.
use Rattle.std.proofs.Common.{◌≡◌, ◌≢◌, ◌↔◌, ◌<◌, ◌-◌, ◌^◌, min, ℕ, ◌∷◌, [], List, Bool, true, false, Option, None, Some, Bor, ◌++◌, ◌||◌, ap, refl, sym, subst, ◌∙◌, codes, arith}
use Rattle.std.specs.Prelude.{MatchOption, unwrap_or}
use Rattle.std.proofs.lemmas.Option.{none-some}
use Rattle.std.proofs.lemmas.List.{append_assoc, append_cancel_left, append_cancel_right}
use Rattle.std.specs.List.{list_any}
use Rattle.num_text.specs.Numbers.{is_digit, value_after, decimal, AllDigits}
use Rattle.num_text.proofs.Decimal.{decimal-numeral}
use Rattle.outside.specs.Names.{is_slash, is_control, IsEnding}
use Rattle.outside.specs.Numbered.{numbered}
use Rattle.numbered_name.proofs.Capped.{decimal-again}

abbrev around : List ℕ → List ℕ → List ℕ
around name ds = name ++ codes ".~" ++ ds ++ codes "~"

no-slash : (d : ℕ) → is_digit d ≡ true → is_slash d ≡ false
no-slash d is = grind arith

no-control : (d : ℕ) → is_digit d ≡ true → is_control d ≡ false
no-control d is = grind arith

free : (test : ℕ → Bool) (rest : List ℕ) → list_any test rest ≡ false → ((d : ℕ) → is_digit d ≡ true → test d ≡ false) → (ds : List ℕ) → AllDigits ds → list_any test (ds ++ rest) ≡ false
free test rest none each [] all = none
free test rest none each (d ∷ ds) all = ap (λ b. b || list_any test (ds ++ rest)) (each d all.0) ∙ free test rest none each ds all.1

-- a number between `.~` and `~` may be put behind a name
pub numbered-ending : (n : ℕ) → IsEnding (codes ".~" ++ decimal n ++ codes "~")
numbered-ending n =
    let digits = (decimal-numeral n).digits in
    record { no_slash = free is_slash (codes "~") refl no-slash (decimal n) digits; no_control = free is_control (codes "~") refl no-control (decimal n) digits }

-- and then the name is whole
pub behind-name : (name ds : List ℕ) → name ++ (codes ".~" ++ ds ++ codes "~") ≡ around name ds
behind-name name ds = ap (λ (l : List ℕ). name ++ l) (append_assoc (codes ".~") ds (codes "~")) ∙ sym (append_assoc name (codes ".~") (ds ++ codes "~")) ∙ sym (append_assoc (name ++ codes ".~") ds (codes "~"))

-- ---- taking a name apart
pub no-end : (name entry : List ℕ) → ((front : List ℕ) → entry ≢ front ++ codes "~") → (ds : List ℕ) → entry ≢ around name ds
no-end name entry none ds is = none (name ++ codes ".~" ++ ds) is

pub no-front : (name entry front : List ℕ) → entry ≡ front ++ codes "~" → ((rest : List ℕ) → front ≢ name ++ rest) → (ds : List ℕ) → entry ≢ around name ds
no-front name entry front at none ds is =
    none (codes ".~" ++ ds) (append_cancel_right front (name ++ codes ".~" ++ ds) (codes "~") (sym at ∙ is) ∙ append_assoc name (codes ".~") ds)

pub no-dot : (name entry front ending : List ℕ) → entry ≡ front ++ codes "~" → front ≡ name ++ ending → ((rest : List ℕ) → ending ≢ codes ".~" ++ rest) → (ds : List ℕ) → entry ≢ around name ds
no-dot name entry front ending at behind none ds is =
    let same = append_cancel_right front (name ++ codes ".~" ++ ds) (codes "~") (sym at ∙ is) ∙ append_assoc name (codes ".~") ds in
    none ds (append_cancel_left name ending (codes ".~" ++ ds) (sym behind ∙ same))

pub whole : (name entry front ending ds : List ℕ) → entry ≡ front ++ codes "~" → front ≡ name ++ ending → ending ≡ codes ".~" ++ ds → entry ≡ around name ds
whole name entry front ending ds at behind last =
    at ∙ ap (λ (l : List ℕ). l ++ codes "~") (behind ∙ ap (λ (l : List ℕ). name ++ l) last ∙ sym (append_assoc name (codes ".~") ds))

-- what stands between is one text
pub between-same : (name entry ds es : List ℕ) → entry ≡ around name ds → entry ≡ around name es → ds ≡ es
between-same name entry ds es one other =
    append_cancel_left (name ++ codes ".~") ds es (append_cancel_right (name ++ codes ".~" ++ ds) (name ++ codes ".~" ++ es) (codes "~") (sym one ∙ other))

-- what the last step found
pub found : (name entry front ending : List ℕ) → entry ≡ front ++ codes "~" → front ≡ name ++ ending → (r : Option (Bor (List ℕ))) → MatchOption r ((rest : List ℕ) → ending ≢ codes ".~" ++ rest) (λ x. ending ≡ codes ".~" ++ x.now)
    → MatchOption r ((ds : List ℕ) → entry ≢ around name ds) (λ x. entry ≡ around name x.now)
found name entry front ending at behind None none = no-dot name entry front ending at behind none
found name entry front ending at behind (Some b) last = whole name entry front ending b.now at behind last

-- ---- the number between
pub is-number : (name entry ds : List ℕ) (v : ℕ) → entry ≡ around name ds → ds ≡ decimal v → v < 2 ^ 64 - 1 → v ≡ min (value_after 0 ds) (2 ^ 64 - 1)
    → (n : ℕ) → (Some v ≡ Some n) ↔ ((entry ≡ numbered name n) × (n < 2 ^ 64 - 1))
is-number name entry ds v at same small value n = (
  λ e. (let is : v ≡ n = ap (λ (o : Option ℕ). unwrap_or o 0) e in (at ∙ ap (λ (l : List ℕ). around name l) (same ∙ ap decimal is), subst (λ (k : ℕ). k < 2 ^ 64 - 1) is small)),
  λ p. ap (λ (k : ℕ). Some k) (decimal-again ds v n value (between-same name entry ds (decimal n) at p.0) p.1),
)

pub no-number : (name entry ds : List ℕ) (v : ℕ) → entry ≡ around name ds → v ≡ min (value_after 0 ds) (2 ^ 64 - 1) → (ds ≡ decimal v → v < 2 ^ 64 - 1 → ⊥)
    → (n : ℕ) → (None ≡ Some n) ↔ ((entry ≡ numbered name n) × (n < 2 ^ 64 - 1))
no-number name entry ds v at value other n = (
  λ e. absurd (none-some n e),
  λ p.
      let same = between-same name entry ds (decimal n) at p.0 in
      let is : v ≡ n = decimal-again ds v n value same p.1 in
      absurd (other (same ∙ ap decimal (sym is)) (subst (λ (k : ℕ). k < 2 ^ 64 - 1) (sym is) p.1)),
)
