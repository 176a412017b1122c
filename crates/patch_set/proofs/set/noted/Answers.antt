use Rattle.std.proofs.Common.{length, is_some, refl, ap, ◌∙◌}
use Rattle.std.proofs.lemmas.List.{length-replicate}
use Rattle.patch_set.specs.SetView.{SetView, IsWhole, first_row}
use Rattle.patch_set.proofs.set.noted.Goals as goal

abbrev seen : goal.Start → SetView
seen c = record {
  text = c.args.text.items;
  ways = c.args.ways;
  patches = c.args.named.patches.items;
  output = c.args.named.output;
  skipped = c.args.notes.skipped.items;
  verdicts = c.args.notes.verdicts.items;
  rows = c.args.notes.rows.items;
  has_marks = is_some c.args.notes.marks;
}

whole : (c : goal.Start) → IsWhole (seen c)
whole c = record {
  lawful = c.requires.whole.lawful;
  regions = c.requires.whole.regions;
  placed = c.requires.whole.placed;
  count = c.requires.whole.count;
  hunks = c.requires.whole.hunks;
  rows = ap length c.requires.notes.rows ∙ length-replicate (length c.args.named.patches.items) first_row;
  skipped = c.requires.notes.skipped;
}

pub invariant_of-result : goal.invariant_of-result
invariant_of-result c = (whole c, c.requires.notes.marks)

pub returns-clause-untried : goal.returns-clause-untried
returns-clause-untried c = record {
  text = refl;
  ways = refl;
  patches = refl;
  output = refl;
  skipped = c.requires.notes.skipped;
  fresh = record { verdicts = c.requires.notes.verdicts; rows = c.requires.notes.rows };
  whole = whole c;
}
