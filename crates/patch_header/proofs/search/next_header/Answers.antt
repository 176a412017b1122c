use Rattle.patch_header.specs.declared.search.HeaderStep.TheVariants.{Found, Binary, End}
use Rattle.patch_header.specs.ReadOptions.{with_git}
use Rattle.patch_header.proofs.StepLemmas.{just_that}
use Rattle.std.proofs.Common.{◌≡◌, subst}
use Rattle.std.proofs.lemmas.Bool.{false≢true}
use Rattle.patch_header.specs.Steps.{Lies, next_step}
use Rattle.patch_header.proofs.search.next_header.Goals as goal

pub returns-clause-found : goal.returns-clause-found
returns-clause-found c = λ h. just_that (with_git c.args.only c.args.git) c.args.text.now c.args.at c.args.line c.header_from.result.0 (Found h) (rw c.with_git.ensures at c.header_from.ensures.comes)

pub returns-clause-binary : goal.returns-clause-binary
returns-clause-binary c = λ n. just_that (with_git c.args.only c.args.git) c.args.text.now c.args.at c.args.line c.header_from.result.0 (Binary n) (rw c.with_git.ensures at c.header_from.ensures.comes)

pub returns-clause-end : goal.returns-clause-end
returns-clause-end c = just_that (with_git c.args.only c.args.git) c.args.text.now c.args.at c.args.line c.header_from.result.0 End (rw c.with_git.ensures at c.header_from.ensures.comes)

pub returns-clause-lies : goal.returns-clause-lies
returns-clause-lies c = subst (λ w. Lies w c.args.text.now c.args.at c.args.line c.header_from.result.0) c.with_git.ensures c.header_from.ensures.lies

pub returns-clause-exact : goal.returns-clause-exact
returns-clause-exact c = subst (λ w. c.header_from.result.0 ≡ next_step w c.args.text.now c.args.at c.args.line) c.with_git.ensures c.header_from.ensures.exact

pub header_from-requires-clause-small : goal.header_from-requires-clause-small
header_from-requires-clause-small c = c.requires.small

pub header_from-requires-clause-short : goal.header_from-requires-clause-short
header_from-requires-clause-short c = c.requires.short

pub header_from-requires-clause-within : goal.header_from-requires-clause-within
header_from-requires-clause-within c = c.requires.within

pub header_from-requires-clause-known : goal.header_from-requires-clause-known
header_from-requires-clause-known c = λ e. absurd (false≢true e)
