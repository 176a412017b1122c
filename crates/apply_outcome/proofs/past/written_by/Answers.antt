use Rattle.std.proofs.Common.{◌≡◌, Option, None, sym, ◌∙◌, ap}
use Rattle.std.specs.Option.{option_or, option_and_then, option_copied}
use Rattle.read_file_patch.specs.declared.derived.Target.{Target}
use Rattle.apply_task.specs.Contexts.{written_at}
use Rattle.apply_task.specs.Ready.{item_of, moved_in}
use Rattle.apply_outcome.proofs.past.written_by.Goals as goal

pub returns-in-Some-clause-named : goal.returns-in-Some-clause-named
returns-in-Some-clause-named c output fit x is = output x (sym c.output.ensures ∙ ap option_copied c.in-Some.is ∙ is)

pub returns-clause-target : goal.returns-clause-target
returns-clause-target c o same =
    let item = item_of c.args.set.now.text c.args.set.now.skipped (moved_in c.args.set.now.patches) c.args.patch.now in
    let none : c.args.set.now.output ≡ None = sym c.output.ensures ∙ ap option_copied c.in_default.is in
    c.written_at.ensures.target c.args.set.now.text c.args.set.now.skipped (moved_in c.args.set.now.patches)
    ∙ ap (λ b. written_at b item c.in_ok-place.place) (sym same)
    ∙ sym (ap (λ (x : Option Target). option_or x (option_and_then (written_at o.reverse item) c.args.row.target)) none ∙ ap (option_and_then (written_at o.reverse item)) c.in_ok-place.was)

pub returns-clause-named : goal.returns-clause-named
returns-clause-named c output fit = c.written_at.ensures.named fit
