use Rattle.std.proofs.Common.{◌≡◌, ◌+◌, ◌≤◌, length, slice_range, ap, arith}
use Rattle.patch_header.specs.Content.{content}
use Rattle.patch_header.proofs.Rows.{prefix_fits, content_short, line_length}
use Rattle.patch_header.proofs.region.tail_of.Goals as goal

pub returns-in-Some-clause-lies : goal.returns-in-Some-clause-lies
returns-in-Some-clause-lies c =
    let line = slice_range c.args.text.now c.args.at c.args.end in
    let fits : length c.args.mark.now ≤ length c.content-bytes.result.now = prefix_fits c.args.mark.now c.content-bytes.result.now c.in-Some.field-0.now c.in-Some.ensures in
    let same : length c.content-bytes.result.now ≡ length (content line) = ap length c.content-bytes.ensures in
    let short : length (content line) ≤ length line = content_short line in
    let far : c.args.at + length line ≡ c.args.end = line_length c.args.text.now c.args.at c.args.end c.requires in
    let high : c.args.end ≤ length c.args.text.now = c.requires.high in
    record { low = omega (arith, fits); high = omega (arith, same, short, far, high) }
