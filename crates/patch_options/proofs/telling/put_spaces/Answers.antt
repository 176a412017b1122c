use Rattle.std.proofs.Common.{◌++◌, replicate, string_bytes}
use Rattle.patch_options.proofs.Growing.{space_more, spaces_told}
use Rattle.patch_options.proofs.telling.put_spaces.Goals as goal

pub loop-preserved : goal.loop-preserved
loop-preserved c =
    space_more c.args.count c.loop.counter (string_bytes c.loop.text) (string_bytes c.push_str.new.self) (string_bytes c.args.text.now ++ replicate c.args.count 32)
    c.loop-test.true c.loop.invariant c.in_ok-push_str.ensures.bytes

pub returns : goal.returns
returns c = spaces_told c.args.count c.loop.counter (string_bytes c.loop.text) (string_bytes c.args.text.now ++ replicate c.args.count 32) c.loop-test.false c.loop.invariant
