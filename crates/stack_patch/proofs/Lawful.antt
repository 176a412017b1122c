-- The options of a push may be given, and a stack whose patches are read with them keeps its laws.
use Rattle.std.proofs.Common.{◌≡◌, refl, arith}
use Rattle.patch_options.specs.PlainJob.{IsLawful}
use Rattle.series_stack.proofs.Answering.{refused_nothing}
use Rattle.series_stack.proofs.Standing.{failed_push, stopped_command}
use Rattle.series_stack.proofs.Counting.{counted_after}
use Rattle.series_stack.proofs.Refusing.{next_refused}
use Rattle.series_stack.proofs.TakingBack.{taken_back}
use Rattle.stack_patch.specs.Reading.{push_options, read_patch}
use Rattle.stack_patch.specs.Keeping.{KeepsItsStack}
use Rattle.stack_patch.proofs.Reader.{reads}

pub options_lawful : IsLawful push_options
unfolding push_options
options_lawful = record { suffix = λ x is. absurd cc; prefix = λ x is. absurd cc; base_prefix = λ x is. absurd cc; reject_form = λ x is. absurd cc; define = λ x is. absurd cc; least = omega arith; most = omega arith }

pub keeps : KeepsItsStack read_patch
keeps = record {
  undone = λ f s stack behind answer. taken_back read_patch f s reads stack behind answer;
  counted = λ op f s stack done. counted_after read_patch op f s reads stack done;
  failed = λ f fails. failed_push read_patch f reads fails;
  refused = λ op f e is. refused_nothing read_patch op f e is;
  stopped = λ op f left k same. stopped_command read_patch reads op f k left same;
  next = λ op other f left k same lasting. next_refused read_patch reads op other f k left same lasting;
}
