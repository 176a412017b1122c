use Rattle.std.proofs.Common.{refl}
use Rattle.patch_options.proofs.groups.patch_table.Goals as goal

pub returns : goal.returns
returns c = refl
