use Rattle.std.proofs.Common.{◌≡◌, ◌/◌, arith}
use Rattle.patch_gen.proofs.text.extra_bytes.Goals as goal

pub returns : goal.returns
returns c = let ones : c.args.number / 1 ≡ c.args.number = omega arith in cc
