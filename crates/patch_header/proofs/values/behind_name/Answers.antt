use Rattle.std.proofs.Common.{◌∙◌, ap, drop, slice_range, length}
use Rattle.std.proofs.lemmas.List.{take_rest}
use Rattle.patch_header.specs.Values.{unblanked}
use Rattle.patch_header.proofs.values.behind_name.Goals as goal

pub returns : goal.returns
returns c =
    let bytes = c.args.bytes.now in
    let rest = slice_range bytes c.name_length.result (length bytes) in
    take_rest rest c.blanks.result
    ∙ ap (λ k. drop k rest) c.blanks.ensures.is
    ∙ ap unblanked (take_rest bytes c.name_length.result ∙ ap (λ k. drop k bytes) c.name_length.ensures.is)

pub slice_bounds-result-count : goal.slice_bounds-result-count
slice_bounds-result-count c = c.blanks.ensures.within
