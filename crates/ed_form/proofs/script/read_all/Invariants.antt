use Rattle.std.proofs.Common.{◌-◌, ◌≤◌, ◌+◌, length, sum_by, drop}
use Rattle.std.specs.Prelude.{All}
use Rattle.line_list.specs.Lines.{lines}
use Rattle.hunk_core.specs.Turned.{LiesIn}
use Rattle.hunk_core.specs.Reading.{IsPlace, ahead_of}
use Rattle.ed_form.specs.PlainEdit.{edits_of}
use Rattle.ed_form.specs.Scripts.{reading}
use Rattle.ed_form.proofs.EditLoops.{EditsSoFar}
use Rattle.ed_form.proofs.script.read_all.Given as goal

abbrev pub invariant-edits : goal.invariant-edits
invariant-edits l = record {
  place : IsPlace l.text l.place;
  later : l.at ≤ l.place.at;
  few : l.at + length l.edits.items + sum_by (λ e. length e.added.items) l.edits.items ≤ l.place.at;
  lies : All (λ e. All (LiesIn l.text) e.added.items) l.edits.items;
  so_far : EditsSoFar (edits_of l.text l.edits.items) l.below (ahead_of l.text l.place) (reading l.line (lines (drop l.at l.text)));
}

abbrev pub decreases-edits : goal.decreases-edits
decreases-edits l = length l.text - l.place.at
