use Rattle.std.proofs.Common.{rules, ◌≡◌, ℕ, List, [], refl, sym, subst, arith}
use Rattle.line_list.specs.Lines.{lines}
use Rattle.plan_a.specs.Cut.{IsCut}
use Rattle.plan_a.proofs.text.Text.empty.Goals as goal

none : IsCut [] []
unfolding lines
none = record { count = refl; few = omega arith; each = λ k lt. absurd (omega arith) }

nothing : (text ends : List ℕ) → text ≡ [] → ends ≡ [] → IsCut text ends
nothing text ends t e = subst (λ v. IsCut v ends) (sym t) (subst (λ v. IsCut [] v) (sym e) none)

pub invariant_of-result : goal.invariant_of-result
invariant_of-result c = record { cut = nothing _ _ (search rules) (search rules); short = search rules }
