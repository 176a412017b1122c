use Rattle.std.proofs.Common.{refl}
use Rattle.series_stack.specs.Saves.{entries_of}
use Rattle.stack_state.specs.Undoing.{undone_by}
use Rattle.stack_state.proofs.Stepping.{steps_then, steps_untouched, untouched_fails}
use Rattle.stack_state.proofs.undoing.undo_by.Goals as goal

pub returns-in-Ok : goal.returns-in-Ok
returns-in-Ok g c s = steps_then (tt {0}) c.undo_held.result (steps_untouched s tt c.in-Ok.ensures.untouched c.requires.quiet) (c.undo_held.ensures s)

pub returns-in-Err : goal.returns-in-Err
returns-in-Err g c s = untouched_fails s (undone_by c.args.name.now (entries_of c.args.save.now)) c.in-Err.ensures.untouched (c.in-Err.ensures.call.cause refl) c.requires.quiet

pub undo_held-requires-clause-save : goal.undo_held-requires-clause-save
undo_held-requires-clause-save g c = c.requires.save

pub undo_held-requires-clause-lasting : goal.undo_held-requires-clause-lasting
undo_held-requires-clause-lasting g c = c.requires.lasting
