use Rattle.patch_cli.proofs.SamePlan.{job_same}
use Rattle.patch_cli.proofs.laws.command_laws.Goals as goal

pub returns : goal.returns
returns c = record { plans = λ o plan f left. job_same plan o f left }
