use Rattle.std.proofs.Common.{◌++◌, ap, subst, ◌∙◌}
use Rattle.std.specs.Prelude.{Option, IfSome}
use Rattle.format_convert.specs.declared.place.LineEdit.{LineEdit}
use Rattle.format_convert.specs.Walk.{IsStep, Lies, edits_left, step_edit}
use Rattle.format_convert.proofs.edits.next_edit.Goals as goal

pub returns-in-Some-edit : goal.returns-in-Some-edit
returns-in-Some-edit c =
    let s : IsStep c.args.kept c.loop-next.at c.in-Some.next = c.in-Some.ensures in
    record {
      left = c.loop-next.invariant ∙ s.left ∙ ap (λ (o : Option LineEdit). step_edit c.args.kept.set.now.text o ++ edits_left c.args.kept c.in-Some.next.behind) c.in-Some-edit.is;
      lies = subst (λ (o : Option LineEdit). IfSome o (Lies c.args.kept.set.now.text)) c.in-Some-edit.is s.lies;
    }

pub loop-next-preserved : goal.loop-next-preserved
loop-next-preserved c =
    let s : IsStep c.args.kept c.loop-next.at c.in-Some.next = c.in-Some.ensures in
    c.loop-next.invariant ∙ s.left ∙ ap (λ (o : Option LineEdit). step_edit c.args.kept.set.now.text o ++ edits_left c.args.kept c.in-Some.next.behind) c.in_default-edit.is

pub returns : goal.returns
returns c = c.loop-next.invariant ∙ c.in_default.ensures

pub loop-next-smaller : goal.loop-next-smaller
loop-next-smaller c =
    let s : IsStep c.args.kept c.loop-next.at c.in-Some.next = c.in-Some.ensures in
    s.shorter
