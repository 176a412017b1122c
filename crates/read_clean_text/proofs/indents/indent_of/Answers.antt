use Rattle.std.proofs.Common.{◌≡◌, ap, ◌∙◌, drop, slice_range, sym}
use Rattle.std.specs.Prelude.{take}
use Rattle.std.proofs.lemmas.List.{take_rest}
use Rattle.patch_header.specs.Values.{unblanked}
use Rattle.read_clean_text.specs.Indents.{begins_patch}
use Rattle.read_clean_text.proofs.Indenting.{sought-all, sought-found, sought-more}
use Rattle.read_clean_text.proofs.indents.indent_of.Goals as goal

pub returns-then-begins_patch : goal.returns-then-begins_patch
returns-then-begins_patch c =
    let one = slice_range c.args.text.now c.lines.at c.in-Some.end in
    let tells : c.begins_patch.result ≡ begins_patch (unblanked one) = c.begins_patch.ensures ∙ ap begins_patch (take_rest one c.blanks-count.result ∙ ap (λ k. drop k one) c.blanks-count.ensures.is) in
    record { is = ap (λ n. take n one) c.blanks-count.ensures.is ∙ sought-found c.args.text.now c.lines.at c.in-Some.end c.lines.invariant c.in-Some.ensures (sym tells ∙ c.if-begins_patch.true) }

pub lines-preserved : goal.lines-preserved
lines-preserved c =
    let one = slice_range c.args.text.now c.lines.at c.in-Some.end in
    let tells : c.begins_patch.result ≡ begins_patch (unblanked one) = c.begins_patch.ensures ∙ ap begins_patch (take_rest one c.blanks-count.result ∙ ap (λ k. drop k one) c.blanks-count.ensures.is) in
    sought-more c.args.text.now c.lines.at c.in-Some.end c.lines.invariant c.in-Some.ensures (sym tells ∙ c.if-begins_patch.false)

pub returns : goal.returns
returns c = record { is = sought-all c.args.text.now c.lines.at c.lines.invariant c.in_default.ensures.1 }
