use Rattle.glob_match.proofs.Deciding.{decided}
use Rattle.glob_match.proofs.matches_are_decided.Goals as goal

pub returns : goal.returns
returns c = decided
