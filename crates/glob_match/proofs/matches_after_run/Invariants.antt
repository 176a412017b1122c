use Rattle.std.proofs.Common.{◌≤◌, ◌-◌, ◌+◌, ◌*◌, ◌∷◌, length, drop}
use Rattle.glob_match.specs.Pattern.{elements, Run}
use Rattle.glob_match.specs.Matching.{Match}
use Rattle.glob_match.proofs.matches_after_run.Given as goal

abbrev pub invariant-loop-next : goal.invariant-loop-next
invariant-loop-next l = record {
  high : l.at ≤ length l.pattern;
  within : l.place ≤ length l.name;
  forth : Match (Run ∷ elements (drop l.start l.pattern)) (drop l.from l.name) → Match (Run ∷ elements (drop l.at l.pattern)) (drop l.place l.name);
  back : Match (Run ∷ elements (drop l.at l.pattern)) (drop l.place l.name) → Match (Run ∷ elements (drop l.start l.pattern)) (drop l.from l.name);
}

abbrev pub decreases-loop-next : goal.decreases-loop-next
decreases-loop-next l = (length l.pattern - l.at) * (length l.name + 1) + (length l.name - l.place)
