use Rattle.std.proofs.Common.{length, drop, ◌-◌, ◌≡◌, ◌≤◌, ◌+◌}
use Rattle.std.specs.Prelude.{option_map, sum_by}
use Rattle.read_header_record.specs.Quoted.{quoted_length, spellings}
use Rattle.read_header_record.proofs.quoted.quoted_length.Given as goal

-- what is left is the quoted name from the place on
abbrev pub invariant-loop-at : goal.invariant-loop-at
invariant-loop-at l = record {
  within : l.at ≤ length l.bytes;
  same : quoted_length l.bytes ≡ option_map (λ ss. l.at + 1 + sum_by (λ s. s.size) ss) (spellings 0 (drop l.at l.bytes));
}

abbrev pub decreases-loop-at : goal.decreases-loop-at
decreases-loop-at l = length l.bytes - l.at
