use Rattle.std.proofs.Common.{◌∙◌, rules, tests}
use Rattle.std.proofs.lemmas.Iterator.{YieldsList-from_slice}
use Rattle.std.proofs.lemmas.Iterator.Search.{any_from_yields_List}
use Rattle.read_file_patch.specs.declared.FilePatch.{FilePatch}
use Rattle.read_patch_text.specs.Regions.{Region, region_of}
use Rattle.read_clean_text.specs.Cleaned.{one_tells, tells_returns}
use Rattle.read_clean_text.proofs.Finding.{any-map}
use Rattle.read_clean_text.proofs.losing.one_tells.Goals as goal

pub returns : goal.returns
unfolding one_tells
returns c =
    any_from_yields_List (λ (p : FilePatch). tells_returns c.args.returns.now p.header) _ _ _ c.any.ensures.ran
    (YieldsList-from_slice c.args.patches.now c.iter.ensures.rest) (λ x b q k. search (rules, tests))
    ∙ any-map (λ (r : Region). tells_returns c.args.returns.now r.header) region_of c.args.patches.now
