use Rattle.std.proofs.Common.{ap}
use Rattle.patch_set.specs.SetView.{SetView, with_verdicts}
use Rattle.patch_set.proofs.set.PatchSet.give_verdicts.Goals as goal

pub returns : goal.returns
returns c = ap (λ (s : SetView). with_verdicts s c.args.verdicts.items) c.self.view_is
