use Rattle.std.proofs.Common.{[], List, ℕ, Ok, subst, sym, ap, ◌∙◌}
use Rattle.hunk_core.specs.PlainHunk.{marked_of}
use Rattle.hunk_core.specs.Sides.{is_on_side}
use Rattle.hunk_core.specs.Turned.{taken_mark, taken_line}
use Rattle.outside.specs.Puts.{Puts}
use Rattle.outside.specs.declared.Failed.{Failed}
use Rattle.outside.proofs.SinkSteps.{has-none, puts-done}
use Rattle.context_form.specs.Canonical.{line_text}
use Rattle.context_form.proofs.StepLemmas.{if-yes, if-no}
use Rattle.context_form.proofs.writing.put_if.Goals as goal

pub returns-then-is_taken : goal.returns-then-is_taken
returns-then-is_taken g c =
    let on = sym (ap (is_on_side c.args.sides.1) c.mark_from.ensures) ∙ sym c.if-is_taken.ensures in
    subst (λ (bs : List ℕ). Puts g.O.Sink.view g.O.Sink.same_rest c.args.out.now c.put_line.new.out c.put_line.result bs) (if-yes (is_on_side c.args.sides.1 (taken_mark c.args.sides.0 c.args.line.mark)) (line_text c.args.changed (taken_line c.args.sides.0 (marked_of c.args.text.now c.args.line))) [] on) c.put_line.ensures

pub returns-else-is_taken : goal.returns-else-is_taken
returns-else-is_taken g c =
    let off = sym (ap (is_on_side c.args.sides.1) c.mark_from.ensures) ∙ sym c.if-is_taken.ensures in
    subst (λ (bs : List ℕ). Puts {E = Failed} g.O.Sink.view g.O.Sink.same_rest c.args.out.now c.args.out.now (Ok tt) bs) (if-no (is_on_side c.args.sides.1 (taken_mark c.args.sides.0 c.args.line.mark)) (line_text c.args.changed (taken_line c.args.sides.0 (marked_of c.args.text.now c.args.line))) [] off) (puts-done tt (has-none g.met.O.Sink.rest_none c.args.out.now))
