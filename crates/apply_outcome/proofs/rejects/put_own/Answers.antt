use Rattle.std.proofs.Common.{◌∙◌, ap, subst, sym, List, ℕ}
use Rattle.outside.proofs.Writing.{writes_is}
use Rattle.read_file_patch.specs.PlainPatch.{IsLawfulChange, change_of}
use Rattle.reject_text.specs.Rejects.{reject_text, hunks_in}
use Rattle.apply_task.specs.Contexts.{shown}
use Rattle.apply_outcome.proofs.rejects.put_own.Goals as goal

pub put_reject-requires-clause-lawful : goal.put_reject-requires-clause-lawful
put_reject-requires-clause-lawful g c = subst (λ text. IsLawfulChange text c.args.patch.now.change) (sym c.text.ensures) c.requires.fit.lawful.change

pub returns : goal.returns
returns g c = record {
  writes = (
      let vs = c.args.verdicts.now in
      let change = c.args.patch.now.change in
      writes_is c.put_reject.result _ c.put_reject.ensures.writes
      (ap (λ (text : List ℕ). reject_text (hunks_in (change_of text change)) vs c.args.side c.shown.result.now c.reject_form-form.result) c.text.ensures
      ∙ ap (λ (name : List ℕ). reject_text (hunks_in (change_of c.args.turn.now.task.set.now.text change)) vs c.args.side name c.reject_form-form.result) c.shown.ensures
      ∙ ap (reject_text (hunks_in (change_of c.args.turn.now.task.set.now.text change)) vs c.args.side (shown c.args.target.now)) c.reject_form-form.ensures.form));
  rest = c.put_reject.ensures.rest;
}

pub put_reject-requires-clause-rows : goal.put_reject-requires-clause-rows
put_reject-requires-clause-rows g c = c.requires.rows

pub put_reject-requires-clause-hunks : goal.put_reject-requires-clause-hunks
put_reject-requires-clause-hunks g c = c.requires.hunks

pub put_reject-requires-clause-form : goal.put_reject-requires-clause-form
put_reject-requires-clause-form g c = c.reject_form-form.ensures.fits
