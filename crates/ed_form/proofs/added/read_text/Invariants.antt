use Rattle.std.proofs.Common.{◌-◌, ◌+◌, ◌≤◌, ◌≡◌, [], drop, length}
use Rattle.std.specs.Prelude.{All}
use Rattle.line_list.specs.Lines.{lines}
use Rattle.hunk_core.specs.Turned.{LiesIn}
use Rattle.hunk_core.specs.Reading.{IsPlace}
use Rattle.ed_form.specs.declared.added.TextState.TheVariants.{Text}
use Rattle.ed_form.specs.PlainEdit.{lines_of}
use Rattle.ed_form.specs.Texts.{text_at}
use Rattle.ed_form.proofs.added.read_text.Given as goal

abbrev pub invariant-lines : goal.invariant-lines
invariant-lines l = record {
  place : IsPlace l.text l.place;
  later : l.fn.place.at ≤ l.place.at;
  few : l.fn.place.at + length l.added.items ≤ l.place.at;
  lies : All (LiesIn l.text) l.added.items;
  same : text_at l.opened l.part (lines_of l.text l.added.items) l.place.number (lines (drop l.place.at l.text)) ≡ text_at l.opened Text [] l.fn.place.number (lines (drop l.fn.place.at l.text));
}

abbrev pub decreases-lines : goal.decreases-lines
decreases-lines l = length l.text - l.place.at
