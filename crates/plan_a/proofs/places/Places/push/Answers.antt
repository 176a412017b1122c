use Rattle.std.proofs.Common.{subst}
use Rattle.plan_a.specs.Places.{Takes}
use Rattle.plan_a.proofs.places.Places.push.Goals as goal

pub returns-in_ok-push-in-Short-clause-takes : goal.returns-in_ok-push-in-Short-clause-takes
returns-in_ok-push-in-Short-clause-takes c = λ p h. subst (λ s. Takes s p) c.in-Short.is h

pub returns-in_ok-push-in-Long-clause-takes : goal.returns-in_ok-push-in-Long-clause-takes
returns-in_ok-push-in-Long-clause-takes c = λ p h. subst (λ s. Takes s p) c.in-Long.is h
