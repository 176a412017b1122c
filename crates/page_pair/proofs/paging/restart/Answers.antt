use Rattle.std.proofs.Common.{refl}
use Rattle.page_pair.proofs.paging.restart.Goals as goal

pub returns-in-Err : goal.returns-in-Err
returns-in-Err g c = record {
  passes = c.restart.ensures.call.passes;
  empty = tt;
  cause = c.in-Err.ensures.call.cause refl;
}
