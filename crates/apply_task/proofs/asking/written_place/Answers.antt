use Rattle.std.proofs.Common.{if◌then◌else◌, ◌∙◌, ap}
use Rattle.apply_task.specs.Asking.{other_place}
use Rattle.apply_task.proofs.asking.written_place.Goals as goal

pub returns-then-moves_at : goal.returns-then-moves_at
returns-then-moves_at c = λ text. c.other_place.ensures ∙ ap (λ b. if b then other_place c.args.place else c.args.place) (c.if-moves_at.ensures text)

pub returns-else-moves_at : goal.returns-else-moves_at
returns-else-moves_at c = λ text. ap (λ b. if b then other_place c.args.place else c.args.place) (c.if-moves_at.ensures text)
