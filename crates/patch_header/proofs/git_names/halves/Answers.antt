use Rattle.std.proofs.Common.{◌≡◌, ◌+◌, true, length, arith, rules}
use Rattle.patch_header.specs.GitRows.{half, has_halves}
use Rattle.patch_header.proofs.BareLemmas.{odd-half}
use Rattle.patch_header.proofs.git_names.halves.Goals as goal

pub returns-clause-within : goal.returns-clause-within
returns-clause-within c =
    let bytes = c.args.bytes.now in
    let yes : has_halves bytes ≡ true = search rules in
    let odd : half bytes + half bytes + 1 ≡ length bytes = odd-half bytes yes in
    let middle : c.half-middle.result ≡ half bytes = c.half-middle.ensures.is in
    record { old = omega (arith, odd, middle); new = omega (arith, odd, middle) }
