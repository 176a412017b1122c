use Rattle.std.proofs.Common.{length, map, ap, ◌∙◌, sym, arith}
use Rattle.std.specs.Prelude.{slice_get}
use Rattle.read_patch_text.specs.Regions.{region_of}
use Rattle.read_clean_text.specs.Bare.{bare_line}
use Rattle.read_clean_text.specs.Indents.{is_in}
use Rattle.read_clean_text.proofs.Indenting.{looked-all, looked-more, looked-unfit}
use Rattle.read_clean_text.proofs.indents.are_indented.Goals as goal

pub returns-then-not-is_fit : goal.returns-then-not-is_fit
returns-then-not-is_fit c =
    let here = c.lines.here in
    looked-unfit c.args.indent.now c.args.text.now c.args.patches.now here.from here.at here.next c.in-Some.end c.patch_at-next.result here.before c.is_in-before.result
    c.lines.invariant c.in-Some.ensures c.patch_at-next.ensures
    (c.is_in-before.ensures ∙ ap (is_in here.before (slice_get (map region_of c.args.patches.now) c.patch_at-next.result) here.at) c.unindented_line-new.ensures.is)
    (sym c.is_fit.ensures ∙ c.if-not-is_fit.true)

pub lines-preserved : goal.lines-preserved
lines-preserved c =
    let here = c.lines.here in
    looked-more c.args.indent.now c.args.text.now c.args.patches.now here.from here.at here.next c.in-Some.end c.patch_at-next.result here.before c.is_in-before.result
    c.lines.invariant c.in-Some.ensures c.patch_at-next.ensures
    (c.is_in-before.ensures ∙ ap (is_in here.before (slice_get (map region_of c.args.patches.now) c.patch_at-next.result) here.at) c.unindented_line-new.ensures.is)
    c.bare_length.result
    (sym c.is_fit.ensures ∙ c.if-not-is_fit.false)
    (c.bare_length.ensures.is ∙ ap (λ l. length (bare_line l)) c.unindented_line-new.ensures.is)
    (omega (arith, c.bare_length.ensures.less, c.unindented_line-new.ensures.less))

pub returns : goal.returns
returns c = looked-all c.args.indent.now c.args.text.now c.args.patches.now c.lines.here.from c.lines.here.at c.lines.here.next c.lines.here.before c.lines.invariant c.in_default.ensures.1
