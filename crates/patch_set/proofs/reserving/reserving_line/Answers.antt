use Rattle.std.proofs.Common.{◌+◌, Bool, Some, cond, drop, sym, ap, ◌∙◌}
use Rattle.patch_options.specs.PlainJob.{plain_options}
use Rattle.patch_set.proofs.Refusing.{line_among, next-line}
use Rattle.patch_set.proofs.reserving.reserving_line.Goals as goal

pub returns-then-branch : goal.returns-then-branch
returns-then-branch c = λ known.
    let o = plain_options c.args.options.now in
    let text = c.args.text.now in
    let i = c.loop-patch.patch-index in
    let p = c.patch-item.result in
    let rest = line_among o known text (drop (i + 1) c.args.patches.now) in
    sym (c.loop-patch.invariant known
    ∙ next-line o known text c.args.patches.now i p c.in_ok-by_output.by_output c.loop-patch-test.true c.patch-item.is (c.in_ok-by_output.ensures known)
    ∙ ap (λ (b : Bool). cond b (Some p.header.opening) rest) (sym (c.in_ok-has_reserved.ensures known) ∙ c.if-branch.true))

pub loop-patch-preserved : goal.loop-patch-preserved
loop-patch-preserved c = λ known.
    let o = plain_options c.args.options.now in
    let text = c.args.text.now in
    let i = c.loop-patch.patch-index in
    let p = c.patch-item.result in
    let rest = line_among o known text (drop (i + 1) c.args.patches.now) in
    c.loop-patch.invariant known
    ∙ next-line o known text c.args.patches.now i p c.in_ok-by_output.by_output c.loop-patch-test.true c.patch-item.is (c.in_ok-by_output.ensures known)
    ∙ ap (λ (b : Bool). cond b (Some p.header.opening) rest) (sym (c.in_ok-has_reserved.ensures known) ∙ c.if-branch.false)
