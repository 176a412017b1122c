use Rattle.cli_gen.proofs.Early.{patch_free}
use Rattle.cli_gen.proofs.OneLine.{one_line}
use Rattle.cli_gen.proofs.SamePlan.{job_same}
use Rattle.cli_gen.proofs.laws.gen_laws.Goals as goal

pub returns : goal.returns
returns c = record { done = λ j f is. one_line j f is; free = λ j size. patch_free j size; plans = λ j plan f. job_same plan j f }
