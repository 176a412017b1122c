use Rattle.std.proofs.Common.{◌≡◌, ◌+◌, get_or, take, drop, arith}
use Rattle.page_pair.specs.Records.{stated}
use Rattle.page_pair.proofs.Windows.{part-at}
use Rattle.page_pair.proofs.record.stated_length.Goals as goal

pub returns : goal.returns
unfolding stated
returns c =
    let p = c.args.page.now in
    let z : c.args.at + 0 ≡ c.args.at = omega arith in
    let a : get_or (take 4 (drop c.args.at p)) 0 0 ≡ get_or p (c.args.at + 0) 0 = part-at 4 c.args.at 0 0 p (omega arith) in
    let b : get_or (take 4 (drop c.args.at p)) 1 0 ≡ get_or p (c.args.at + 1) 0 = part-at 4 c.args.at 1 0 p (omega arith) in
    let d : get_or (take 4 (drop c.args.at p)) 2 0 ≡ get_or p (c.args.at + 2) 0 = part-at 4 c.args.at 2 0 p (omega arith) in
    let e : get_or (take 4 (drop c.args.at p)) 3 0 ≡ get_or p (c.args.at + 3) 0 = part-at 4 c.args.at 3 0 p (omega arith) in
    rw (a, b, d, e, z) c.from_le_bytes.ensures
