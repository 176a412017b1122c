-- One verdict row more.
use Rattle.std.proofs.Common.{◌≡◌, ℕ, zero, suc, ◌+◌, ◌<◌, List, [], ◌∷◌, length, set, take, drop, sym, ap, subst, ◌∙◌, arith}
use Rattle.std.specs.List.{All}
use Rattle.std.proofs.lemmas.List.{take_more_set, drop-set-lt, drop-drop}
use Rattle.std.proofs.lemmas.List.Elements.{All-append}
use Rattle.hunk_core.specs.declared.Verdict.{Verdict}
use Rattle.hunk_apply.specs.Session.{IsTried}

all-one : (v : Verdict) → IsTried v → All IsTried (v ∷ [])
all-one v t zero d lt = t
all-one v t (suc k) d lt = absurd (omega arith)

pub tried-more : (vs : List Verdict) (j : ℕ) (v : Verdict) → j < length vs → All IsTried (take j vs) → IsTried v → All IsTried (take (j + 1) (set vs j v))
tried-more vs j v lt h t = subst (All IsTried) (sym (take_more_set vs j v lt)) (All-append IsTried (take j vs) (v ∷ []) h (all-one v t))

pub others-more : (vs old : List Verdict) (j : ℕ) (v : Verdict) → drop j vs ≡ drop j old → drop (j + 1) (set vs j v) ≡ drop (j + 1) old
others-more vs old j v h = drop-set-lt (j + 1) vs j v (omega arith) ∙ sym (drop-drop 1 j vs) ∙ ap (drop 1) h ∙ drop-drop 1 j old
