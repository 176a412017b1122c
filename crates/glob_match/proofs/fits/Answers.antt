use Rattle.std.proofs.Common.{drop}
use Rattle.std.proofs.lemmas.Bool.{false≢true}
use Rattle.glob_match.specs.Pattern.{elements}
use Rattle.glob_match.proofs.MatchLemmas.{met-then}
use Rattle.glob_match.proofs.fits.Goals as goal

pub returns-in-Run : goal.returns-in-Run
returns-in-Run c =
    let m = c.matches_after_run.ensures in
    let t = met-then (elements c.args.pattern.now) (elements (drop c.in-Run.next c.args.pattern.now)) c.args.name.now (drop c.in-Run.place c.args.name.now) c.in-Run.ensures.4 in
    (λ h. t.1 (m.0 h), λ h. m.1 (t.0 h))

pub returns-in-Mismatch : goal.returns-in-Mismatch
returns-in-Mismatch c = (λ h. absurd (false≢true h), λ m. absurd (c.in-Mismatch.ensures m))
