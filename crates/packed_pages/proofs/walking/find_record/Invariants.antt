use Rattle.std.proofs.Common.{◌-◌, ◌≤◌}
use Rattle.packed_pages.specs.Marks.{IsMark, AreMarks}
use Rattle.packed_pages.proofs.walking.find_record.Given as goal

abbrev pub invariant-loop-now : goal.invariant-loop-now
invariant-loop-now l = record {
  order : l.now.before ≤ l.wanted;
  is : IsMark l.page l.now;
  marks : AreMarks l.page l.marks;
}

abbrev pub decreases-loop-now : goal.decreases-loop-now
decreases-loop-now l = l.wanted - l.now.before
