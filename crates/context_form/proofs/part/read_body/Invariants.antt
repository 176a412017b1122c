use Rattle.std.proofs.Common.{◌+◌, ◌-◌, ◌≤◌, ◌≡◌, length}
use Rattle.std.specs.Prelude.{All}
use Rattle.hunk_core.specs.PlainHunk.{body_of}
use Rattle.hunk_core.specs.Turned.{LiesIn}
use Rattle.hunk_core.specs.Reading.{IsPlace, ahead_of}
use Rattle.context_form.specs.Parts.{no_body, body_at}
use Rattle.context_form.proofs.part.read_body.Given as goal

abbrev pub invariant-body : goal.invariant-body
invariant-body l = record {
  place : IsPlace l.text l.place;
  later : l.fn.place.at ≤ l.place.at;
  few : l.fn.place.at + length l.lines.items ≤ l.place.at;
  lies : All (λ x. LiesIn l.text x.span) l.lines.items;
  same : body_at l.side l.left (record { lines = body_of l.text l.lines.items; changed = l.changed }) (ahead_of l.text l.place) ≡ body_at l.side l.most no_body (ahead_of l.text l.fn.place);
}

abbrev pub decreases-body : goal.decreases-body
decreases-body l = length l.text - l.place.at
