use Rattle.patch_set.proofs.InBytes.{set-bytes}
use Rattle.patch_set.proofs.laws.a_set_in_bytes.Goals as goal

pub returns : goal.returns
returns c = set-bytes
