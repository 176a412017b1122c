use Rattle.std.proofs.Common.{◌≡◌, ◌<◌, ℕ, List, ⊎_elim, arith, subst}
use Rattle.std.specs.Str.{IsUtf8, IsCharBoundary}
use Rattle.std.proofs.lemmas.Str.{IsCharBoundary-after_ascii}
use Rattle.apply_task.specs.Named.{BeginsComponent}
use Rattle.apply_task.proofs.names.shown_from.Goals as goal

-- a component begins at a character
begins : (name : List ℕ) (from : ℕ) → IsUtf8 name → BeginsComponent name from → 0 < from → IsCharBoundary name from
begins name from utf8 component positive = ⊎_elim
    (λ (first : from ≡ 0). absurd (omega arith))
    (λ (k, is, below, slash). subst (λ (i : ℕ). IsCharBoundary name i) (omega (arith, is)) (IsCharBoundary-after_ascii name k utf8 below (omega (arith, slash))))
    component

pub range_from-requires : goal.range_from-requires
range_from-requires c = begins c.text.result.now c.args.from c.text.utf8 (rw c.text.ensures.text c.requires)
