use Rattle.std.proofs.Common.{◌≡◌, ℕ, List, codes, ap, ◌∙◌}
use Rattle.outside.proofs.Writing.{writes_is}
use Rattle.series_stack.specs.Outcomes.{said}
use Rattle.stack_state.proofs.saying.say_applying.Goals as goal

pub returns-clause-writes : goal.returns-clause-writes
returns-clause-writes g c =
    let named : c.as_bytes.result.now ≡ c.args.name.now = c.as_bytes.ensures.value ∙ c.text.ensures.text in
    writes_is c.say.result (said (codes "Applying patch ") c.args.name.now) c.say.ensures.writes (ap (λ (l : List ℕ). said (codes "Applying patch ") l) named)
