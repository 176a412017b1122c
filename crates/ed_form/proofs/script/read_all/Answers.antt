use Rattle.std.proofs.Common.{◌≡◌, ◌++◌, ◌∷◌, [], sym, ap, ◌∙◌, true, false, drop, arith, refl}
use Rattle.std.proofs.lemmas.Result.{err_from_is_err_and, IfOk-from_err}
use Rattle.std.proofs.lemmas.List.{map_push}
use Rattle.line_list.specs.Lines.{lines}
use Rattle.hunk_core.specs.Reading.{ahead_of}
use Rattle.ed_form.specs.Commands.{begins_script}
use Rattle.ed_form.specs.PlainEdit.{edit_of, edits_of}
use Rattle.ed_form.specs.Scripts.{begins_substitution, reading}
use Rattle.ed_form.proofs.EditLoops.{edits_next, edits_fail, edits_done, edits_refused, edits_begin}
use Rattle.ed_form.proofs.Bounds.{short-fits, nearer-place, few-within, few-more, lies-more}
use Rattle.ed_form.proofs.script.read_all.Goals as goal

pub returns-in_err-edit-clause-exact : goal.returns-in_err-edit-clause-exact
returns-in_err-edit-clause-exact c =
    let p = err_from_is_err_and c.from_residual.result c.from_residual.ensures.1 in
    let opens : begins_script (lines (drop c.edits.place.at c.args.text.now)) ≡ true = sym c.edits-test.ensures in
    rw (p.1, p.2) (edits_fail c.in_err-edit.field-0.0 (edits_of c.args.text.now c.edits.edits.items) c.edits.below (ahead_of c.args.text.now c.edits.place) _ opens c.in_err-edit.ensures.exact c.edits.invariant.so_far)

pub edits-preserved : goal.edits-preserved
edits-preserved c =
    let opens : begins_script (lines (drop c.edits.place.at c.args.text.now)) ≡ true = sym c.edits-test.ensures in
    let e : edits_of c.args.text.now c.push.new.self.items ≡ edits_of c.args.text.now c.edits.edits.items ++ edit_of c.args.text.now c.in_ok-edit.edit ∷ [] = ap (edits_of c.args.text.now) c.in_ok-push.ensures.items ∙ map_push (edit_of c.args.text.now) c.edits.edits.items c.in_ok-edit.edit in
    record {
      place = c.in_ok-edit.ensures.place.0;
      later = omega (arith, c.in_ok-edit.ensures.place.1, c.edits.invariant.later);
      few = few-more c.edits.edits.items c.push.new.self.items c.in_ok-edit.edit c.in_ok-push.ensures.items c.args.at _ _ c.edits.invariant.few c.in_ok-edit.ensures.few;
      lies = lies-more c.edits.edits.items c.push.new.self.items c.in_ok-edit.edit c.in_ok-push.ensures.items c.args.text.now c.edits.invariant.lies c.in_ok-edit.ensures.lies;
      so_far = edits_next (edits_of c.args.text.now c.edits.edits.items) (edits_of c.args.text.now c.push.new.self.items) c.edits.below c.from-below.result (ahead_of c.args.text.now c.edits.place) (edit_of c.args.text.now c.in_ok-edit.edit) (ahead_of c.args.text.now c.in_ok-edit.next)
          (reading c.args.line (lines (drop c.args.at c.args.text.now))) e (c.from-below.ensures ∙ c.min.ensures) opens c.in_ok-edit.ensures.exact c.edits.invariant.so_far;
    }

pub returns-then-at_substitution-clause-exact : goal.returns-then-at_substitution-clause-exact
returns-then-at_substitution-clause-exact c =
    let none : begins_script (lines (drop c.edits.place.at c.args.text.now)) ≡ false = sym c.edits-test.ensures in
    let substitutes : begins_substitution (lines (drop c.edits.place.at c.args.text.now)) ≡ true = sym c.if-at_substitution.ensures in
    rw c.bad.ensures (edits_refused (edits_of c.args.text.now c.edits.edits.items) c.edits.below (ahead_of c.args.text.now c.edits.place) _ none substitutes c.edits.invariant.so_far)

pub returns-clause-exact : goal.returns-clause-exact
returns-clause-exact c =
    let none : begins_script (lines (drop c.edits.place.at c.args.text.now)) ≡ false = sym c.edits-test.ensures in
    let clean : begins_substitution (lines (drop c.edits.place.at c.args.text.now)) ≡ false = sym c.if-at_substitution.ensures in
    edits_done (edits_of c.args.text.now c.edits.edits.items) c.edits.below (ahead_of c.args.text.now c.edits.place) _ none clean c.edits.invariant.so_far

pub edits-init : goal.edits-init
edits-init c = rw c.new-edits.ensures.items (record {
  place = record { short = c.requires.short; within = c.requires.within; small = omega (arith, c.requires.small) };
  later = omega (arith);
  few = omega (arith);
  lies = λ k d lt. absurd (omega (arith, lt));
  so_far = edits_begin c.args.line (lines (drop c.args.at c.args.text.now));
})

pub at_command-requires : goal.at_command-requires
at_command-requires c = c.edits.invariant.place.within

pub read_edit-requires : goal.read_edit-requires
read_edit-requires c = c.edits.invariant.place

pub at_substitution-requires : goal.at_substitution-requires
at_substitution-requires c = c.edits.invariant.place.within

pub edits-smaller : goal.edits-smaller
edits-smaller c = nearer-place _ _ _ c.in_ok-edit.ensures.place.1 c.in_ok-edit.ensures.place.0.within

pub overflow_cast-result : goal.overflow_cast-result
overflow_cast-result c = short-fits _ _ c.requires.within c.requires.short

pub overflow_cast-result-2 : goal.overflow_cast-result-2
overflow_cast-result-2 c = short-fits _ _ c.edits.invariant.place.within c.requires.short

pub returns-in_err-edit-clause-start : goal.returns-in_err-edit-clause-start
returns-in_err-edit-clause-start c = IfOk-from_err c.from_residual.result _ c.from_residual.ensures.0

pub returns-in_err-edit-clause-within : goal.returns-in_err-edit-clause-within
returns-in_err-edit-clause-within c = IfOk-from_err c.from_residual.result _ c.from_residual.ensures.0

pub returns-in_err-edit-clause-few : goal.returns-in_err-edit-clause-few
returns-in_err-edit-clause-few c = IfOk-from_err c.from_residual.result _ c.from_residual.ensures.0

pub returns-in_err-edit-clause-lies : goal.returns-in_err-edit-clause-lies
returns-in_err-edit-clause-lies c = IfOk-from_err c.from_residual.result _ c.from_residual.ensures.0

pub returns-in_err-push-clause-start : goal.returns-in_err-push-clause-start
returns-in_err-push-clause-start c = IfOk-from_err c.from_residual-in_err-push.result _ c.from_residual-in_err-push.ensures.0

pub returns-in_err-push-clause-within : goal.returns-in_err-push-clause-within
returns-in_err-push-clause-within c = IfOk-from_err c.from_residual-in_err-push.result _ c.from_residual-in_err-push.ensures.0

pub returns-in_err-push-clause-few : goal.returns-in_err-push-clause-few
returns-in_err-push-clause-few c = IfOk-from_err c.from_residual-in_err-push.result _ c.from_residual-in_err-push.ensures.0

pub returns-in_err-push-clause-lies : goal.returns-in_err-push-clause-lies
returns-in_err-push-clause-lies c = IfOk-from_err c.from_residual-in_err-push.result _ c.from_residual-in_err-push.ensures.0

pub returns-then-at_substitution-clause-start : goal.returns-then-at_substitution-clause-start
returns-then-at_substitution-clause-start c = tt

pub returns-then-at_substitution-clause-within : goal.returns-then-at_substitution-clause-within
returns-then-at_substitution-clause-within c = tt

pub returns-then-at_substitution-clause-few : goal.returns-then-at_substitution-clause-few
returns-then-at_substitution-clause-few c = tt

pub returns-then-at_substitution-clause-lies : goal.returns-then-at_substitution-clause-lies
returns-then-at_substitution-clause-lies c = tt

pub returns-clause-start : goal.returns-clause-start
returns-clause-start c = refl

pub returns-clause-within : goal.returns-clause-within
returns-clause-within c = (c.edits.invariant.later, c.edits.invariant.place.within)

pub returns-clause-few : goal.returns-clause-few
returns-clause-few c = few-within c.args.at _ _ c.edits.place.at _ c.edits.invariant.few c.edits.invariant.place.within

pub returns-clause-lies : goal.returns-clause-lies
returns-clause-lies c = c.edits.invariant.lies
