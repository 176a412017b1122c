use Rattle.std.proofs.Common.{[], None}
use Rattle.outside.specs.Quiet.{after_all}
use Rattle.series_stack.specs.Saves.{entries_of}
use Rattle.stack_state.specs.Undoing.{restored_by, taken_away}
use Rattle.stack_state.proofs.Stepping.{steps_then, steps_stop}
use Rattle.stack_state.proofs.undoing.undo_held.Goals as goal

pub take_away-requires-clause-quiet : goal.take_away-requires-clause-quiet
take_away-requires-clause-quiet g c = (c.in-Ok.ensures (record { told = None; faults = 0 })).quiet

pub returns-in-Ok : goal.returns-in-Ok
returns-in-Ok g c s = steps_then c.in-Ok.field-0 c.take_away.result (c.in-Ok.ensures s) (c.take_away.ensures s)

pub returns-in-Err : goal.returns-in-Err
returns-in-Err g c s = steps_stop c.in-Err.fault (λ f. taken_away c.args.name.now (after_all (restored_by (entries_of c.args.save.now) f) f)) (λ f. []) (c.in-Err.ensures s)

pub restore_by-requires-clause-save : goal.restore_by-requires-clause-save
restore_by-requires-clause-save g c = c.requires.save

pub restore_by-requires-clause-quiet : goal.restore_by-requires-clause-quiet
restore_by-requires-clause-quiet g c = c.requires.quiet

pub take_away-requires-clause-lasting : goal.take_away-requires-clause-lasting
take_away-requires-clause-lasting g c = c.requires.lasting
