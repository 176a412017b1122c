use Rattle.std.proofs.Common.{subst, arith}
use Rattle.std.specs.Prelude.{IfSome}
use Rattle.patch_header.specs.Region.{LiesIn}
use Rattle.patch_header.proofs.Pieces.{new-fits}
use Rattle.patch_header.proofs.git_names.git_name.Goals as goal

pub returns-in-Some-both_names-clause-lies : goal.returns-in-Some-both_names-clause-lies
returns-in-Some-both_names-clause-lies c =
    let lies = subst (λ o. IfSome o (LiesIn c.args.text.now)) c.in-Some.is c.requires in
    record { low = omega arith; high = new-fits c.args.text.now c.in-Some.rest c.in-Some-both_names.pair lies c.in-Some-both_names.ensures.within }

pub slice_bounds-both_names-count : goal.slice_bounds-both_names-count
slice_bounds-both_names-count c = (subst (λ o. IfSome o (LiesIn c.args.text.now)) c.in-Some.is c.requires).low
