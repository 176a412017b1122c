use Rattle.series_stack.proofs.Answering.{refused_nothing}
use Rattle.series_stack.proofs.Standing.{failed_push, stopped_command}
use Rattle.series_stack.proofs.Counting.{counted_after}
use Rattle.series_stack.proofs.TakingBack.{taken_back}
use Rattle.series_stack.proofs.Refusing.{next_refused}
use Rattle.series_stack.proofs.command_laws.stack_laws.Goals as goal

pub returns : goal.returns
returns c = record {
  undone = λ read f s lawful stack behind answer. taken_back read f s lawful stack behind answer;
  counted = λ read op f s lawful stack done. counted_after read op f s lawful stack done;
  failed = λ read f lawful fails. failed_push read f lawful fails;
  refused = λ read op f e is. refused_nothing read op f e is;
  stopped = λ read op f left k lawful same. stopped_command read lawful op f k left same;
  next = λ read op other f left k lawful same lasting. next_refused read lawful op other f k left same lasting;
}
