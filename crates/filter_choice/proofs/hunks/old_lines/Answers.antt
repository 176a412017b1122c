use Rattle.std.proofs.Common.{◌∙◌, arith, refl, rules}
use Rattle.filter_choice.proofs.OldLines.{no-lines, old-lines}
use Rattle.filter_choice.proofs.hunks.old_lines.Goals as goal

pub returns-then-count-eq0 : goal.returns-then-count-eq0
returns-then-count-eq0 c = λ text.
    no-lines text c.args.hunk.now c.from-count.result _ _ (c.from-count.ensures ∙ c.count.ensures) (search rules) c.from-line.ensures c.from-line.ensures

pub returns : goal.returns
returns c = λ text.
    old-lines text c.args.hunk.now c.from-count.result _ _ (c.from-count.ensures ∙ c.count.ensures) (omega (arith, c.if-count-eq0.false)) c.from-first.ensures refl
