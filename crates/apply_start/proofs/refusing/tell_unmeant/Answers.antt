use Rattle.std.proofs.Common.{List, ℕ, ap, ◌∙◌}
use Rattle.outside.proofs.Writing.{writes_is}
use Rattle.apply_task.specs.Contexts.{shown}
use Rattle.apply_task.specs.TaskView.{plain_task}
use Rattle.apply_task.specs.declared.kinds.Subject.{Subject}
use Rattle.apply_start.specs.Start.{named, unmeant_line, unmeant_said}
use Rattle.apply_start.proofs.refusing.tell_unmeant.Goals as goal

pub returns-clause-writes : goal.returns-clause-writes
returns-clause-writes g c =
    let t = plain_task c.args.task.now in
    let reverse = t.options.reverse in
    writes_is c.say_unmeant.result (unmeant_said t c.args.place) c.say_unmeant.ensures.writes
    (ap (λ (n : List ℕ). unmeant_line reverse n c.subject_of.result) (c.shown-name.ensures ∙ ap shown c.named.ensures.target)
    ∙ ap (λ (s : Subject). unmeant_line reverse (shown (named t c.args.place)) s) c.subject_of.ensures)
