use Rattle.std.proofs.Common.{◌≡◌, ◌<◌, length, get_or, false, ◌∙◌, sym, arith}
use Rattle.std.proofs.lemmas.Bool.{false_from_ne_true, eqb-true}
use Rattle.std.proofs.lemmas.List.{take_rest}
use Rattle.outside.specs.Names.{is_slash}
use Rattle.read_file_patch.proofs.Stripping.{slashes-more, slashes-end}
use Rattle.read_file_patch.proofs.strip.without_slashes.Goals as goal
use Rattle.read_file_patch.proofs.strip.without_slashes.Goals.{then-loop-at-test+else-text-at-eq47, else-loop-at-test}

pub loop-at-preserved : goal.loop-at-preserved
loop-at-preserved c = record {
  within = omega arith;
  same = sym (slashes-more c.args.text.now c.loop-at.at c.loop-at-test.true c.if-text-at-eq47.true) ∙ c.loop-at.invariant.same;
}

pub returns : goal.returns
returns c =
    let text = c.args.text.now in
    let at = c.loop-at.at in
    let stops : at < length text → is_slash (get_or text at 0) ≡ false = elim c.loop-at-test.branch [
      | then-loop-at-test+else-text-at-eq47 w ↦ λ lt. false_from_ne_true (is_slash (get_or text at 0)) (λ e. w.if-text-at-eq47.false (eqb-true _ _ e))
      | else-loop-at-test w ↦ λ lt. absurd (omega (arith, lt, w.loop-at-test.false))
    ] in
    take_rest text at ∙ sym (slashes-end text at stops) ∙ c.loop-at.invariant.same
