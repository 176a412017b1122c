use Rattle.std.proofs.Common.{refl}
use Rattle.cli_filter.proofs.styling.put_text.Goals as goal

pub returns-in-Ok : goal.returns-in-Ok
returns-in-Ok g c = record {
  passes = c.put_all.ensures.call.passes;
  rest = c.put_all.ensures.rest;
  received = c.in-Ok.ensures.received;
  failed = tt;
  cause = tt;
}

pub returns-in-Err : goal.returns-in-Err
returns-in-Err g c = record {
  passes = c.put_all.ensures.call.passes;
  rest = c.put_all.ensures.rest;
  received = tt;
  failed = c.in-Err.ensures.failed;
  cause = c.in-Err.ensures.call.cause refl;
}
