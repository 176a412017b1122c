use Rattle.patch_filters.proofs.Whole.{writes-all, writes-none, writes-no-bare}
use Rattle.patch_filters.proofs.Outlined.{outlines-listed}
use Rattle.patch_filters.proofs.laws.filter_laws.Goals as goal

pub returns-clause-all : goal.returns-clause-all
returns-clause-all c = writes-all

pub returns-clause-none : goal.returns-clause-none
returns-clause-none c = writes-none

pub returns-clause-bare : goal.returns-clause-bare
returns-clause-bare c = writes-no-bare

pub returns-clause-outlined : goal.returns-clause-outlined
returns-clause-outlined c j ps none = outlines-listed j none ps
