use Rattle.std.proofs.Common.{◌∙◌, Some, ap, length}
use Rattle.line_list.specs.Lines.{lines}
use Rattle.plan_a.proofs.Reading.{lines-none}
use Rattle.plan_a.proofs.PlanA.new.Goals as goal

pub returns-clause-empty : goal.returns-clause-empty
returns-clause-empty c = record { told = ap (λ b. Some (lines b)) c.empty.ensures ∙ ap Some lines-none; count = ap (λ b. length (lines b)) c.empty.ensures ∙ ap length lines-none }
