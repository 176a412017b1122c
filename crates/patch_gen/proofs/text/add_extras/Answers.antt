use Rattle.patch_gen.specs.Texts.{extra_line, extra_lines}
use Rattle.patch_gen.proofs.RunLemmas.{run-more}
use Rattle.std.proofs.Common.{◌≡◌, ℕ, ◌++◌, ◌∙◌, ap, arith}
use Rattle.patch_gen.proofs.text.add_extras.Goals as goal

pub loop-done-preserved : goal.loop-done-preserved
loop-done-preserved c = run-more extra_line _ _ _ _ c.loop-done.done c.loop-done.invariant c.in_ok-extend_from_slice.ensures.items c.extra_bytes.ensures

pub returns : goal.returns
returns c = let all : c.loop-done.done ≡ c.args.count = omega (arith, c.loop-done-test.false, c.loop-done.auto.done-end) in c.loop-done.invariant ∙ ap (λ (n : ℕ). c.args.text.now.items ++ extra_lines n) all
