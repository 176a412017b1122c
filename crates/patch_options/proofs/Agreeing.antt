-- What was matched agrees, tested value by value.
use Rattle.std.proofs.Common.{◌≡◌, ◌∙◌, ◌&&◌, Bool, true, false, ap, sym}
use Rattle.std.proofs.lemmas.Bool.{false≢true}

-- ---- one more test behind those before it

pub joined_then : {joined more before one other : Bool} → joined ≡ more → more ≡ other → before ≡ one → before ≡ true → joined ≡ (one && other)
joined_then {other = other} is more so holds = is ∙ (more ∙ ap (λ b. b && other) (sym holds ∙ so))

pub joined_else : {joined before one : Bool} (other : Bool) → joined ≡ before → before ≡ one → before ≡ false → joined ≡ (one && other)
joined_else other is so none = is ∙ (none ∙ ap (λ b. b && other) (sym none ∙ so))

-- ---- the last of four

pub four_then : (a b c d joined last : Bool) → joined ≡ ((a && b) && c) → joined ≡ true → last ≡ d → last ≡ (a && (b && (c && d)))
four_then true true c d joined last is holds last_is = last_is ∙ ap (λ t. t && d) (sym holds ∙ is)
four_then true false c d joined last is holds last_is = absurd (false≢true (sym is ∙ holds))
four_then false b c d joined last is holds last_is = absurd (false≢true (sym is ∙ holds))

pub four_else : (a b c d joined : Bool) → joined ≡ ((a && b) && c) → joined ≡ false → joined ≡ (a && (b && (c && d)))
four_else true true c d joined is none = none ∙ ap (λ t. t && d) (sym none ∙ is)
four_else true false c d joined is none = is
four_else false b c d joined is none = is
