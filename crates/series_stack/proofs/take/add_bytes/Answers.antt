use Rattle.series_stack.specs.Taking.{HasEntryCause}
use Rattle.series_stack.proofs.Taking.{fault_kept}
use Rattle.outside.proofs.Exits.{on_ok_none}
use Rattle.outside.specs.Calls.{untouched_none}
use Rattle.series_stack.proofs.take.add_bytes.Goals as goal

pub returns-in-Err : goal.returns-in-Err
returns-in-Err g c = record {
  untouched = c.read_whole.ensures.untouched;
  bytes = tt;
  form = tt;
  cause = tt;
  size = tt;
}

pub returns-in-Ok-clause-untouched : goal.returns-in-Ok-clause-untouched
returns-in-Ok-clause-untouched g c = c.read_whole.ensures.untouched

pub returns-then-is_err-clause-untouched : goal.returns-then-is_err-clause-untouched
returns-then-is_err-clause-untouched g c = untouched_none (g.T.Tree.view c.args.tree.now)

pub returns-in_err-read_whole-clause-cause : goal.returns-in_err-read_whole-clause-cause
returns-in_err-read_whole-clause-cause g c = fault_kept (λ e. HasEntryCause e (g.T.Tree.view c.args.tree.now) (g.T.Tree.view c.read_whole.new.tree) c.args.name.now) c.from_residual.result c.in_err-read_whole.field-0.0 c.from_residual.ensures.1 c.in_err-read_whole.ensures.cause

pub returns-in_err-read_whole-clause-bytes : goal.returns-in_err-read_whole-clause-bytes
returns-in_err-read_whole-clause-bytes g c = on_ok_none _ _ c.from_residual.result c.from_residual.ensures.1

pub returns-in_err-read_whole-clause-form : goal.returns-in_err-read_whole-clause-form
returns-in_err-read_whole-clause-form g c = on_ok_none _ _ c.from_residual.result c.from_residual.ensures.1

pub returns-in_err-read_whole-clause-untouched : goal.returns-in_err-read_whole-clause-untouched
returns-in_err-read_whole-clause-untouched g c = c.read_whole.ensures.untouched

pub read_whole-requires-clause-there : goal.read_whole-requires-clause-there
read_whole-requires-clause-there g c = c.requires.there

pub returns-in-Ok-clause-cause : goal.returns-in-Ok-clause-cause
returns-in-Ok-clause-cause g c = tt

pub returns-in-Ok-clause-size : goal.returns-in-Ok-clause-size
returns-in-Ok-clause-size g c = tt
