use Rattle.std.proofs.Common.{[], sym, ◌∙◌, refl}
use Rattle.series_stack.proofs.Steps.{size_absent, size_there}
use Rattle.stack_state.specs.Undoing.{taken_away}
use Rattle.stack_state.proofs.Stepping.{steps_is, steps_then, steps_untouched, untouched_fails}
use Rattle.stack_state.proofs.Restoring.{taken-absent}
use Rattle.stack_state.proofs.undoing.take_away.Goals as goal

pub remove_there-requires-clause-there : goal.remove_there-requires-clause-there
remove_there-requires-clause-there g c =
    let size = c.in-Ok-Some in
    size_there (g.T.Tree.view c.args.tree.now) (g.T.Tree.view c.size.new.self) c.args.name.now size.field-0-0 size.ensures.untouched (λ f told. sym size.field-0-is ∙ size.ensures.size f told)

pub returns-in-Ok-Some : goal.returns-in-Ok-Some
returns-in-Ok-Some g c s = steps_then (tt {0}) c.remove_there.result (steps_untouched s tt c.in-Ok-Some.ensures.untouched c.requires.quiet) (c.remove_there.ensures s)

pub returns-in-Ok-None : goal.returns-in-Ok-None
returns-in-Ok-None g c s =
    let size = c.in-Ok-None in
    let name = c.args.name.now in
    steps_is _ (taken_away name) (λ f. []) (λ f told. taken-absent name f (size_absent (g.T.Tree.view c.args.tree.now) name (λ h is. sym size.field-0-is ∙ size.ensures.size h is) f told)) (λ f told. refl)
    (steps_untouched s tt size.ensures.untouched c.requires.quiet)

pub returns-in-Err : goal.returns-in-Err
returns-in-Err g c s = untouched_fails s (taken_away c.args.name.now) c.in-Err.ensures.untouched (c.in-Err.ensures.call.cause refl) c.requires.quiet

pub remove_there-requires-clause-lasting : goal.remove_there-requires-clause-lasting
remove_there-requires-clause-lasting g c = c.requires.lasting
