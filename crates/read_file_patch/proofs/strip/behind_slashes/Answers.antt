use Rattle.std.proofs.Common.{ap, sym, ◌∙◌}
use Rattle.std.specs.Option.{option_copied}
use Rattle.read_file_patch.proofs.Stripping.{count-turn, count-lack, count-end}
use Rattle.read_file_patch.proofs.strip.behind_slashes.Goals as goal

pub returns-in_err-left : goal.returns-in_err-left
returns-in_err-left c =
    ap (λ o. option_copied o) c.from_residual.ensures
    ∙ sym (c.loop.invariant ∙ count-lack c.args.count c.loop.counter c.loop.left.now c.loop-test.true (sym c.in_err-left.ensures))

pub loop-preserved : goal.loop-preserved
loop-preserved c = c.loop.invariant ∙ count-turn c.args.count c.loop.counter c.loop.left.now c.in_ok-left.left.now c.loop-test.true (sym c.in_ok-left.ensures)

pub returns : goal.returns
returns c = sym (c.loop.invariant ∙ count-end c.args.count c.loop.counter c.loop.left.now c.loop-test.false)
