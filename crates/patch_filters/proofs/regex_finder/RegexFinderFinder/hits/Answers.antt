use Rattle.patch_filters.specs.RegexFound.{regex_hit}
use Rattle.patch_filters.specs.declared.regex_finder.Kept.{Kept}
use Rattle.std.proofs.Common.{ap, ◌∙◌}
use Rattle.patch_filters.proofs.Refusals.{kept-same, none-kept}
use Rattle.patch_filters.proofs.regex_finder.RegexFinderFinder.hits.Goals as goal

pub returns-in-Some-clause-hit : goal.returns-in-Some-clause-hit
returns-in-Some-clause-hit c = λ pattern is. c.hits.ensures.found ∙ ap (λ s. regex_hit s c.args.line.now) (kept-same (λ (k : Kept). k.source.now) c.args.self.now.kept c.in-Some.kept pattern c.in-Some.is is)

pub returns-in-None-clause-hit : goal.returns-in-None-clause-hit
returns-in-None-clause-hit c = λ pattern is. none-kept (λ (k : Kept). k.source.now) c.args.self.now.kept pattern c.in-None.is is
