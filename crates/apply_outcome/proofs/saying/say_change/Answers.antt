use Rattle.std.proofs.Common.{ap, subst, sym, ◌∙◌, length, List, ℕ, []}
use Rattle.outside.proofs.Writing.{writes_is}
use Rattle.read_file_patch.specs.declared.Change.{Change}
use Rattle.read_file_patch.specs.PlainPatch.{IsLawfulChange, change_of, row_count, AreLawfulHunks}
use Rattle.patch_options.specs.PlainJob.{plain_options}
use Rattle.apply_outcome.specs.HunksSaid.{change_said, hunks_said}
use Rattle.hunk_core.specs.declared.Hunk.{Hunk}
use Rattle.hunk_core.specs.PlainHunk.{hunks_of}
use Rattle.reject_text.specs.Rejects.{rows_of}
use Rattle.apply_outcome.proofs.saying.say_change.Goals as goal

pub returns-in-Script : goal.returns-in-Script
returns-in-Script g c = record {
  writes = (
      let o = plain_options c.args.turn.now.task.options.now in
      let text = c.args.turn.now.task.set.now.text in
      let said = λ (change : Change). change_said o c.args.end c.args.side (change_of text change) c.args.verdicts.now in
      writes_is c.say_script.result (said c.args.turn.now.task.patch.now.change)
      (c.say_script.ensures.writes text (subst (IsLawfulChange text) c.in-Script.is c.requires.turn.task.fit.lawful.change))
      (ap said (sym c.in-Script.is)));
  rest = c.say_script.ensures.rest;
}

pub returns-in-Hunks : goal.returns-in-Hunks
returns-in-Hunks g c = record {
  rest = c.say_hunks.ensures.rest;
  writes = (
      let o = plain_options c.args.turn.now.task.options.now in
      let vs = c.args.verdicts.now in
      let said = λ (change : Change). change_said o c.args.end c.args.side (change_of c.args.turn.now.task.set.now.text change) vs in
      writes_is c.say_hunks.result (said c.args.turn.now.task.patch.now.change) c.say_hunks.ensures.writes
      (ap (λ (text : List ℕ). hunks_said o c.args.end [] (rows_of c.args.side (hunks_of text c.deref.result.now) vs)) c.text.ensures
      ∙ ap (λ (hs : List Hunk). hunks_said o c.args.end [] (rows_of c.args.side (hunks_of c.args.turn.now.task.set.now.text hs) vs)) c.deref.ensures.value
      ∙ ap said (sym c.in-Hunks.is)));
}

pub say_hunks-requires-clause-rows : goal.say_hunks-requires-clause-rows
say_hunks-requires-clause-rows g c = c.requires.rows ∙ ap row_count c.in-Hunks.is ∙ ap (λ (hs : List Hunk). length hs) (sym c.deref.ensures.value)

pub say_hunks-requires-clause-lawful : goal.say_hunks-requires-clause-lawful
say_hunks-requires-clause-lawful g c =
    let text = c.args.turn.now.task.set.now.text in
    subst (λ t. AreLawfulHunks t c.deref.result.now) (sym c.text.ensures)
    (subst (λ (hs : List Hunk). AreLawfulHunks text hs) (sym c.deref.ensures.value) (subst (IsLawfulChange text) c.in-Hunks.is c.requires.turn.task.fit.lawful.change))

pub say_hunks-requires-clause-tried : goal.say_hunks-requires-clause-tried
say_hunks-requires-clause-tried g c = c.requires.tried

pub say_script-requires : goal.say_script-requires
say_script-requires g c = record { tried = c.requires.tried }
