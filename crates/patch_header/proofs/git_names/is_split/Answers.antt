use Rattle.std.proofs.Common.{◌∙◌, ◌&&◌, ap, take, drop, arith, length-take, ◌+◌, sym}
use Rattle.patch_header.specs.GitRows.{are_alike}
use Rattle.patch_header.proofs.BareLemmas.{rest-all}
use Rattle.std.specs.Prelude.{◌==◌}
use Rattle.patch_header.proofs.git_names.is_split.Goals as goal

pub slice_bounds-are_alike-end : goal.slice_bounds-are_alike-end
slice_bounds-are_alike-end c = omega (arith, c.requires, length-take c.args.middle c.args.bytes.now)

pub returns-then-bytes-middle-eq32 : goal.returns-then-bytes-middle-eq32
returns-then-bytes-middle-eq32 c =
    let bytes = c.args.bytes.now in
    let middle = c.args.middle in
    c.are_alike.ensures ∙ ap (are_alike (take middle bytes)) (rest-all bytes (middle + 1)) ∙ ap (λ b. b == 32 && are_alike (take middle bytes) (drop (middle + 1) bytes)) (sym c.if-bytes-middle-eq32.true)
