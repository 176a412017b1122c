use Rattle.std.proofs.Common.{ap, subst, ◌∙◌}
use Rattle.patch_set.specs.SetView.{SetView, IsWhole}
use Rattle.patch_set.proofs.set.PatchSet.patches.Goals as goal

pub returns : goal.returns
returns c = record {
  patches = c.deref.ensures.value ∙ ap (λ (s : SetView). s.patches) c.self.view_is;
  whole = subst IsWhole c.self.view_is c.self.invariant.0;
}
