use Rattle.std.proofs.Common.{◌≡◌, ◌≤◌, ◌^◌, Some, false, ap, ◌∙◌, rules, arith, w64, to_z, of_z}
use Rattle.std.specs.Prelude.{ℤ, pos, slice_get}
use Rattle.std.proofs.lemmas.Int.{ints, to_z-of_z}
use mir.Val.{SFits}
use Rattle.outside.proofs.Writing.{writes_is}
use Rattle.hunk_core.specs.declared.Verdict.TheVariants.{Nowhere, At}
use Rattle.ed_form.specs.PlainEdit.{edits_of}
use Rattle.hunk_apply.specs.Script.{first_address}
use Rattle.patch_options.specs.PlainJob.{plain_options}
use Rattle.say_text.specs.Messages.{silenced, failed_line}
use Rattle.apply_outcome.specs.HunksSaid.{script_said}
use Rattle.apply_outcome.proofs.Telling.{placed-passed, script-by, first-is, first-tried, line-fits}
use Rattle.apply_outcome.proofs.saying.say_script.Goals as goal

pub returns-in_default-clause-rest : goal.returns-in_default-clause-rest
returns-in_default-clause-rest g c = g.met.O.Sink.rest_none _

pub returns-in_default-2-clause-rest : goal.returns-in_default-2-clause-rest
returns-in_default-2-clause-rest g c = g.met.O.Sink.rest_none _

pub returns-in-Some-Nowhere : goal.returns-in-Some-Nowhere
returns-in-Some-Nowhere g c = record {
  writes = λ text lawful.
      let o = plain_options c.args.options.now in
      let vs = c.args.verdicts.now in
      let address = first_address (edits_of text c.args.script.now.edits.items) in
      let some = c.in-Some-Nowhere in
      let is : slice_get vs 0 ≡ Some Nowhere = first-is vs c.first.result some.field-0 Nowhere c.first.ensures.value some.is some.field-0-is in
      let fits : SFits w64 c.from.result = search rules in
      let line : to_z w64 (of_z w64 c.from.result) ≡ pos address = to_z-of_z w64 c.from.result fits ∙ c.from.ensures ∙ ap pos (c.first_address.ensures text) in
      writes_is c.say_failed.result (script_said o address vs) c.say_failed.ensures.writes
      (ap (λ (z : ℤ). silenced o (failed_line 1 z false)) line ∙ script-by o address vs Nowhere is);
  rest = c.say_failed.ensures.rest;
}

pub returns-in-Some-At : goal.returns-in-Some-At
returns-in-Some-At g c = record {
  writes = λ text lawful.
      let o = plain_options c.args.options.now in
      let vs = c.args.verdicts.now in
      let address = first_address (edits_of text c.args.script.now.edits.items) in
      let at = c.in-Some-At in
      let v = At at.line at.fuzz at.offset in
      let is : slice_get vs 0 ≡ Some v = first-is vs c.first.result at.field-0 v c.first.ensures.value at.is at.field-0-is in
      let fits : SFits w64 at.offset = search rules in
      let small : at.line ≤ 2 ^ 41 = first-tried vs v is c.requires.tried in
      let line : to_z w64 at.line ≡ pos at.line = omega (arith, ints, small) in
      writes_is c.say_placed.result (script_said o address vs) c.say_placed.ensures.writes
      (placed-passed o 1 (to_z w64 at.line) (pos at.line) at.fuzz at.offset fits line ∙ script-by o address vs v is);
  rest = c.say_placed.ensures.rest;
}

pub overflow_cast-line : goal.overflow_cast-line
overflow_cast-line g c =
    let vs = c.args.verdicts.now in
    let at = c.in-Some-At in
    let v = At at.line at.fuzz at.offset in
    line-fits at.line (first-tried vs v (first-is vs c.first.result at.field-0 v c.first.ensures.value at.is at.field-0-is) c.requires.tried)
