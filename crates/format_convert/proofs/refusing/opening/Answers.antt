use Rattle.std.proofs.Common.{ap, sym, ◌∙◌}
use Rattle.std.proofs.lemmas.Option.{same_Some}
use Rattle.read_file_patch.specs.declared.FilePatch.{FilePatch}
use Rattle.format_convert.proofs.refusing.opening.Goals as goal

pub returns : goal.returns
returns c = λ x at. ap (λ (p : FilePatch). p.header.opening) (same_Some c.patch_at.result.now x (sym c.patch_at.ensures.is ∙ at))
