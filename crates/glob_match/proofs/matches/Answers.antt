use Rattle.glob_match.proofs.Deciding.{is-test}
use Rattle.glob_match.proofs.matches.Goals as goal

pub returns-clause-test : goal.returns-clause-test
returns-clause-test c = is-test c.args.pattern.now c.args.name.now c.fits.result c.fits.ensures
