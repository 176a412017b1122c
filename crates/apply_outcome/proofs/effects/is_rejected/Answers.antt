use Rattle.std.proofs.Common.{[], not, sym, ◌∙◌, ap}
use Rattle.patch_options.specs.PlainJob.{plain_options}
use Rattle.apply_outcome.proofs.Writing.{rejected_are_hunks}
use Rattle.apply_outcome.proofs.effects.is_rejected.Goals as goal

pub returns-then-session-gt0-clause-hunks : goal.returns-then-session-gt0-clause-hunks
returns-then-session-gt0-clause-hunks c rejects = rejected_are_hunks (plain_options c.args.turn.now.task.options.now) [] c.args.turn.now.task.patch.now.change (ap (λ b. not b) (sym (c.is_unrejected.ensures [])) ∙ rejects)
