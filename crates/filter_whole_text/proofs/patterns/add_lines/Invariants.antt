use Rattle.std.proofs.Common.{◌≡◌, ◌++◌, map, All}
use Rattle.line_list.specs.Places.{IsWithin}
use Rattle.filter_whole_text.specs.Outcomes.{patterns_in}
use Rattle.filter_whole_text.proofs.Choosing.{patterns_at}
use Rattle.filter_whole_text.proofs.patterns.add_lines.Given as goal

abbrev pub invariant-loop-start : goal.invariant-loop-start
invariant-loop-start l = record {
  within : All (IsWithin l.text) l.start-iterator;
  added : map (λ p. p.items) l.patterns.items ++ patterns_at l.text l.start-iterator ≡ map (λ p. p.items) l.fn.patterns.items ++ patterns_in l.text;
}
