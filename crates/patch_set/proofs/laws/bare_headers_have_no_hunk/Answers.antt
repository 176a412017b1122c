use Rattle.patch_set.proofs.BareHeaders.{bare_told}
use Rattle.patch_set.proofs.laws.bare_headers_have_no_hunk.Goals as goal

pub returns : goal.returns
returns c = bare_told
