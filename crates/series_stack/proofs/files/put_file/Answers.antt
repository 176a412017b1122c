use Rattle.std.proofs.Common.{inl, refl}
use Rattle.series_stack.proofs.Steps.{untouched_fails}
use Rattle.outside.specs.Calls.{untouched_none}
use Rattle.series_stack.proofs.files.put_file.Goals as goal

pub returns-in-Err : goal.returns-in-Err
returns-in-Err g c = record {
  makes = untouched_fails (untouched_none (g.T.Tree.view c.args.tree.now)) c.requires.quiet _ _;
  cause = inl refl;
}

pub returns-in-Ok : goal.returns-in-Ok
returns-in-Ok g c = record {
  makes = c.put_by.ensures.makes;
  cause = c.put_by.ensures.cause;
}

pub put_by-requires-clause-named : goal.put_by-requires-clause-named
put_by-requires-clause-named g c = c.in-Ok.ensures.text

pub put_by-requires-clause-lasting : goal.put_by-requires-clause-lasting
put_by-requires-clause-lasting g c = c.requires.lasting

pub put_by-requires-clause-quiet : goal.put_by-requires-clause-quiet
put_by-requires-clause-quiet g c = c.requires.quiet

pub put_by-requires-clause-temporary : goal.put_by-requires-clause-temporary
put_by-requires-clause-temporary g c = c.in-Ok.ensures.temp
