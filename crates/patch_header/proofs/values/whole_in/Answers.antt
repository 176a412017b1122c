use Rattle.std.proofs.Common.{subst, arith}
use Rattle.std.specs.Prelude.{IfSome}
use Rattle.patch_header.specs.Region.{LiesIn}
use Rattle.patch_header.proofs.Pieces.{piece-at, whole-fits}
use Rattle.patch_header.proofs.values.whole_in.Goals as goal

pub returns-in-Some-clause-piece : goal.returns-in-Some-clause-piece
returns-in-Some-clause-piece c =
    let lies = subst (λ o. IfSome o (LiesIn c.args.text.now)) c.in-Some.is c.requires.lies in
    piece-at c.args.text.now _ _ _ c.span_at.ensures (whole-fits c.args.text.now c.in-Some.tail lies)

pub span_at-requires : goal.span_at-requires
span_at-requires c =
    let lies = subst (λ o. IfSome o (LiesIn c.args.text.now)) c.in-Some.is c.requires.lies in
    omega (arith, c.requires.short, whole-fits c.args.text.now c.in-Some.tail lies)

pub slice_bounds-span_at-count : goal.slice_bounds-span_at-count
slice_bounds-span_at-count c = (subst (λ o. IfSome o (LiesIn c.args.text.now)) c.in-Some.is c.requires.lies).low
