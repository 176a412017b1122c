-- Steps of walks that name a value otherwise.
use Rattle.std.proofs.Common.{◌≡◌, List, sym, subst}
use seplogic.Ra.Ura.{Ura}
use mir.Syntax.{Place}
use mir.Val.{Val}
use prog.Wp.{Env}
use types.Logic.{Logic}
use types.Kit.{Item, Post, Seq, Step, step, settles}

module _ {M : Type 1} {𝓤 : Ura M} {𝓛 : Logic 𝓤} {K : Type 0} {Γ : List (Item 𝓤)} where
  -- the result of a call that ends its part is known
  pub settled : K → {E : Env 𝓤 𝓛.H} {d : Place} {q : Post 𝓤 𝓛.H} {v w : Val} → v ≡ w → Step K 𝓛 Γ (settles E d w q) Γ (settles E d v q)
  settled k {E} {d} {q} e = step (λ s. subst (λ (u : Val). Seq K 𝓛 Γ (settles E d u q)) (sym e) s)
