use Rattle.std.proofs.Common.{◌≡◌, ◌-◌, ◌<◌, ◌^◌, min, drop}
use Rattle.num_text.specs.Numbers.{value_after}
use Rattle.numbered_name.proofs.value_of.Given as goal

abbrev pub invariant-loop-i : goal.invariant-loop-i
invariant-loop-i l = record {
  fits : l.value < 2 ^ 64;
  same : min (value_after l.value (drop l.i l.digits)) (2 ^ 64 - 1) ≡ min (value_after 0 l.digits) (2 ^ 64 - 1);
}
