use Rattle.std.proofs.Common.{◌-◌, length}
use Rattle.read_patch_text.specs.Reading.{IsProgress}
use Rattle.read_patch_text.proofs.Taking.{TakenSoFar}
use Rattle.read_patch_text.proofs.walking.walk.Given as goal

abbrev pub invariant-patches : goal.invariant-patches
invariant-patches g l = record {
  progress : IsProgress l.text l.here;
  so_far : TakenSoFar g.W.PatchWalk.Has l.ways l.text l.fn.kept l.kept l.here;
}

abbrev pub decreases-patches : goal.decreases-patches
decreases-patches g l = length l.text - l.here.at
