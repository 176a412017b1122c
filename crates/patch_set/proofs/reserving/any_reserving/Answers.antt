use Rattle.std.proofs.Common.{◌+◌, ◌||◌, Bool, drop, sym, ap, ◌∙◌}
use Rattle.patch_options.specs.PlainJob.{plain_options}
use Rattle.patch_set.proofs.Refusing.{any_among, next-name}
use Rattle.patch_set.proofs.reserving.any_reserving.Goals as goal

pub returns-then-branch : goal.returns-then-branch
returns-then-branch c = λ known.
    let o = plain_options c.args.options.now in
    let i = c.loop-name.name-index in
    let rest = any_among o known (drop (i + 1) c.args.names.now) in
    sym (c.loop-name.invariant known ∙ next-name o known c.args.names.now i c.name-item.result c.loop-name-test.true c.name-item.is
    ∙ ap (λ (b : Bool). b || rest) (sym (c.in_ok-is_reserving.ensures known) ∙ c.if-branch.true))

pub loop-name-preserved : goal.loop-name-preserved
loop-name-preserved c = λ known.
    let o = plain_options c.args.options.now in
    let i = c.loop-name.name-index in
    let rest = any_among o known (drop (i + 1) c.args.names.now) in
    c.loop-name.invariant known ∙ next-name o known c.args.names.now i c.name-item.result c.loop-name-test.true c.name-item.is
    ∙ ap (λ (b : Bool). b || rest) (sym (c.in_ok-is_reserving.ensures known) ∙ c.if-branch.false)
