use Rattle.hunk_core.proofs.TurnedLemmas.{turned-count, turned-other-count, turned-leading, turned-trailing, turned-base}
use Rattle.hunk_core.proofs.sides_laws.Goals as goal

pub returns-clause-count : goal.returns-clause-count
returns-clause-count c = turned-count

pub returns-clause-pre : goal.returns-clause-pre
returns-clause-pre c = turned-leading

pub returns-clause-post : goal.returns-clause-post
returns-clause-post c = turned-trailing

pub returns-clause-base : goal.returns-clause-base
returns-clause-base c = turned-base

pub returns-clause-other_count : goal.returns-clause-other_count
returns-clause-other_count c = turned-other-count
