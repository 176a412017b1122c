use Rattle.std.proofs.Common.{refl}
use Rattle.mem_world.proofs.Outcomes.{device_read}
use Rattle.mem_world.proofs.tree.MemTreeTree.is_read_only.Goals as goal

pub returns-in_err-begin-clause-counted : goal.returns-in_err-begin-clause-counted
returns-in_err-begin-clause-counted c = device_read c.args.self.now c.begin.new.self _ _ c.in_err-begin.ensures (λ _. refl) (λ _. c.from_residual.ensures.0)

pub returns-clause-counted : goal.returns-clause-counted
returns-clause-counted c = device_read c.args.self.now c.begin.new.self _ _ c.in_ok-begin.ensures (λ err. err) (λ err. err)
