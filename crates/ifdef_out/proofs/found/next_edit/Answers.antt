use Rattle.std.proofs.Common.{◌++◌, Option, ap, subst, ◌∙◌}
use Rattle.std.specs.Prelude.{IfSome}
use Rattle.ifdef_out.specs.declared.place.LineEdit.{LineEdit}
use Rattle.ifdef_out.specs.Places.{Lies, edits_left, step_edit}
use Rattle.ifdef_out.proofs.found.next_edit.Goals as goal

pub returns-in-Some-edit : goal.returns-in-Some-edit
returns-in-Some-edit c =
    let text = c.args.edits.text.now in
    record {
      left = c.loop-next.invariant ∙ c.in-Some.ensures.left ∙ ap (λ (o : Option LineEdit). step_edit text o ++ edits_left c.args.edits c.in-Some.next.behind) c.in-Some-edit.is;
      lies = subst (λ (o : Option LineEdit). IfSome o (Lies text)) c.in-Some-edit.is c.in-Some.ensures.lies;
    }

pub loop-next-preserved : goal.loop-next-preserved
loop-next-preserved c = c.loop-next.invariant ∙ c.in-Some.ensures.left ∙ ap (λ (o : Option LineEdit). step_edit c.args.edits.text.now o ++ edits_left c.args.edits c.in-Some.next.behind) c.in_default-edit.is

pub loop-next-smaller : goal.loop-next-smaller
loop-next-smaller c = c.in-Some.ensures.shorter

pub returns : goal.returns
returns c = c.loop-next.invariant ∙ c.in_default.ensures
