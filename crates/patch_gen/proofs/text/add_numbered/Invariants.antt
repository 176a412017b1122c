use Rattle.std.proofs.Common.{◌≡◌, ◌++◌, ◌%◌}
use Rattle.std.specs.List.{flat_map, range_with_len}
use Rattle.patch_gen.specs.Lcg.{draw, state_after}
use Rattle.patch_gen.specs.Texts.{numbered_line}
use Rattle.patch_gen.proofs.text.add_numbered.Given as goal

abbrev pub invariant-loop-done : goal.invariant-loop-done
invariant-loop-done l = record {
  text : l.text.items ≡ l.initial.text.items ++ flat_map (λ j. numbered_line j (draw l.fn.draws.state j % 1000)) (range_with_len 1 l.done);
  state : l.draws.state ≡ state_after l.fn.draws.state l.done;
}
