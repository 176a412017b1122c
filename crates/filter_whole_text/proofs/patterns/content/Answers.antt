use Rattle.std.proofs.Common.{[], ◌∷◌, refl}
use Rattle.std.proofs.lemmas.Bool.Decides.{Decides-eqb}
use Rattle.std.proofs.lemmas.Slice.Eq.{strip_suffix_is}
use Rattle.filter_whole_text.proofs.Choosing.{content-stripped}
use Rattle.filter_whole_text.proofs.patterns.content.Goals as goal

pub returns : goal.returns
returns c =
    let line = c.args.line.now in
    content-stripped line c.strip_suffix.result c.args.line c.unwrap_or.result (strip_suffix_is Decides-eqb line (10 ∷ []) c.strip_suffix.result c.strip_suffix.ensures.cases) refl c.unwrap_or.ensures
