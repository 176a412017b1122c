use Rattle.patch_set.proofs.OneView.{one-view}
use Rattle.patch_set.proofs.laws.one_view.Goals as goal

pub returns : goal.returns
returns c = one-view
