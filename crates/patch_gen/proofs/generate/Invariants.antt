use Rattle.std.proofs.Common.{◌≡◌, ◌+◌, ◌*◌, map}
use Rattle.std.specs.List.{flat_map, range_with_len}
use Rattle.patch_gen.specs.Lcg.{state_after}
use Rattle.patch_gen.specs.Tree.{made_file, made_patch}
use Rattle.patch_gen.proofs.generate.Given as goal

abbrev pub invariant-loop-done : goal.invariant-loop-done
invariant-loop-done l = record {
  files : map (λ v. v.items) l.texts.items ≡ map (made_file l.seed l.lines) (range_with_len 1 l.done);
  patch : l.patch.items ≡ flat_map (made_patch l.seed l.lines) (range_with_len 1 l.done);
  state : l.draws.state ≡ state_after l.seed (l.done * (1 + l.lines));
}
