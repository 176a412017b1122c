use Rattle.read_clean_text.specs.Reading.{clean_of}
use Rattle.stack_patch.specs.Reading.{push_options}
use Rattle.cli_stack.specs.Faults.{of_push}
use Rattle.cli_stack.proofs.Standing.{stops_as}
use Rattle.cli_stack.proofs.Fetching.{names_next, names_stop, push_stops}
use Rattle.cli_stack.proofs.pushing.read_from.Goals as goal

pub with_names-requires : goal.with_names-requires
with_names-requires g c = (clean_of push_options c.in-Ok.ensures.push.given, c.in-Ok.ensures.push.is.read)

pub returns-in-Ok : goal.returns-in-Ok
returns-in-Ok g c = record {
  next = names_next c.args.state.now c.args.name.now c.args.file.now c.in-Ok.set c.requires.state c.requires.name c.requires.file c.in-Ok.ensures.push c.in-Ok.ensures.fresh c.with_names.result c.with_names.ensures.set c.with_names.ensures.names c.with_names.ensures.own;
  refused = names_stop (g.T.Tree.view c.args.tree.now) (g.T.Tree.view c.read_push.new.tree) c.args.state.now c.args.name.now c.args.file.now c.in-Ok.set c.requires.state c.requires.name c.requires.file c.in-Ok.ensures.push c.with_names.result c.with_names.ensures.refused;
  untouched = c.read_push.ensures.untouched;
}

pub returns-in-Err : goal.returns-in-Err
returns-in-Err g c = record {
  refused = λ a b. stops_as c.of_push.result (of_push c.in-Err.fault) c.of_push.ensures
      (push_stops (g.T.Tree.view c.args.tree.now) (g.T.Tree.view c.read_push.new.tree) a b c.args.state.now c.args.name.now c.args.file.now c.requires.state c.requires.name c.requires.file c.in-Err.fault c.in-Err.ensures.cause c.in-Err.ensures.some c.in-Err.ensures.none);
  untouched = c.read_push.ensures.untouched;
  next = tt;
}

pub read_push-requires : goal.read_push-requires
read_push-requires g c = c.push_options-options.ensures
