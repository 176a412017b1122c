use Rattle.std.proofs.Common.{length, map, drop, ◌-◌, ◌≡◌, ◌≤◌, ◌+◌, ◌++◌, Some, None}
use Rattle.std.specs.Prelude.{option_and_then, sum_by, ◌==◌, if◌then◌else◌}
use Rattle.read_header_record.specs.Quoted.{unquoted, spellings}
use Rattle.read_header_record.proofs.quoted.unquoted.Given as goal

-- the name so far, and what is spelled from the place on
abbrev pub invariant-loop-at : goal.invariant-loop-at
invariant-loop-at l = record {
  within : l.at ≤ length l.text;
  same : unquoted l.text ≡ option_and_then (λ ss. if l.at + 1 + sum_by (λ s. s.size) ss == length l.text then Some (l.name.items ++ map (λ s. s.byte) ss) else None) (spellings 0 (drop l.at l.text));
}

abbrev pub decreases-loop-at : goal.decreases-loop-at
decreases-loop-at l = length l.text - l.at
