use Rattle.std.proofs.Common.{subst, arith}
use Rattle.std.specs.Prelude.{IfSome}
use Rattle.patch_header.specs.Region.{LiesIn}
use Rattle.patch_header.proofs.Pieces.{piece-at, new-fits}
use Rattle.patch_header.proofs.git_names.new_half.Goals as goal

pub returns-in-Some-both_names-clause-piece : goal.returns-in-Some-both_names-clause-piece
returns-in-Some-both_names-clause-piece c =
    let lies = subst (λ o. IfSome o (LiesIn c.args.text.now)) c.in-Some.is c.requires.lies in
    piece-at c.args.text.now _ _ _ c.span_at.ensures (new-fits c.args.text.now c.in-Some.tail c.in-Some-both_names.pair lies c.in-Some-both_names.ensures.within)

pub span_at-requires : goal.span_at-requires
span_at-requires c =
    let lies = subst (λ o. IfSome o (LiesIn c.args.text.now)) c.in-Some.is c.requires.lies in
    omega (arith, c.requires.short, new-fits c.args.text.now c.in-Some.tail c.in-Some-both_names.pair lies c.in-Some-both_names.ensures.within)

pub slice_bounds-both_names-count : goal.slice_bounds-both_names-count
slice_bounds-both_names-count c = (subst (λ o. IfSome o (LiesIn c.args.text.now)) c.in-Some.is c.requires.lies).low
