use Rattle.std.proofs.Common.{◌≡◌, ◌++◌}
use Rattle.patch_gen.specs.Texts.{extra_lines}
use Rattle.patch_gen.proofs.text.add_extras.Given as goal

abbrev pub invariant-loop-done : goal.invariant-loop-done
invariant-loop-done l = l.text.items ≡ l.initial.text.items ++ extra_lines l.done
