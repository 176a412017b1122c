use Rattle.std.proofs.Common.{◌∙◌, sym, ap, subst, drop, arith, ◌+◌}
use Rattle.std.specs.Prelude.{IfSome}
use Rattle.std.proofs.lemmas.List.{take_rest}
use Rattle.patch_header.specs.Region.{LiesIn}
use Rattle.patch_header.specs.Values.{bytes_of, index_length, span_at, index_in}
use Rattle.patch_header.proofs.Pieces.{piece-at, part-fits}
use Rattle.patch_header.proofs.values.index_in.Goals as goal

pub returns-in-Some-clause-is : goal.returns-in-Some-clause-is
returns-in-Some-clause-is c =
    let text = c.args.text.now in
    let t = c.in-Some.tail in
    let bytes = bytes_of text t in
    c.span_at.ensures
    ∙ ap (span_at (t.start + c.blanks-skipped.result)) (c.index_length.ensures.is ∙ ap index_length (take_rest bytes c.blanks-skipped.result))
    ∙ ap (λ n. span_at (t.start + n) (index_length (drop n bytes))) c.blanks-skipped.ensures.is
    ∙ sym (ap (index_in text) c.in-Some.is)

pub returns-in-Some-clause-piece : goal.returns-in-Some-clause-piece
returns-in-Some-clause-piece c =
    let lies = subst (λ o. IfSome o (LiesIn c.args.text.now)) c.in-Some.is c.requires.lies in
    piece-at c.args.text.now _ _ _ c.span_at.ensures (part-fits c.args.text.now c.in-Some.tail _ _ lies c.blanks-skipped.ensures.within c.index_length.ensures.within)

pub span_at-requires : goal.span_at-requires
span_at-requires c =
    let lies = subst (λ o. IfSome o (LiesIn c.args.text.now)) c.in-Some.is c.requires.lies in
    omega (arith, c.requires.short, part-fits c.args.text.now c.in-Some.tail _ _ lies c.blanks-skipped.ensures.within c.index_length.ensures.within)

pub slice_bounds-bytes-count : goal.slice_bounds-bytes-count
slice_bounds-bytes-count c = (subst (λ o. IfSome o (LiesIn c.args.text.now)) c.in-Some.is c.requires.lies).low

pub slice_bounds-index_length-count : goal.slice_bounds-index_length-count
slice_bounds-index_length-count c = c.blanks-skipped.ensures.within
