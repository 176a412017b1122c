use Rattle.std.proofs.Common.{refl, arith}
use Rattle.read_patch_text.proofs.Passed.{below}
use Rattle.read_patch_text.proofs.change.bare_at.Goals as goal

pub returns-clause-is : goal.returns-clause-is
returns-clause-is c =
    let none = c.new-items.ensures.items in
    let behind = c.bare_end-end.ensures in
    record {
      lawful = rw none (record { count = omega arith; few = omega arith; lawful = λ k d lt. absurd (omega (arith, lt)) });
      spans = c.new-spans.ensures.items;
      count = rw none refl;
      goes = record { none = rw none refl; ends = behind.place; counted = behind.number };
      some = behind.on c.requires.within;
      high = behind.within;
      numbers = behind.count;
      dots = behind.dots;
    }

pub bare_end-end-requires-clause-short : goal.bare_end-end-requires-clause-short
bare_end-end-requires-clause-short c = c.requires.short

pub bare_end-end-requires-clause-within : goal.bare_end-end-requires-clause-within
bare_end-end-requires-clause-within c = below _ _ c.requires.within
