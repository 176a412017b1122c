use Rattle.stack_patch.proofs.Reader.{reads}
use Rattle.stack_patch.proofs.Sets.{set_read}
use Rattle.stack_patch.proofs.Lawful.{options_lawful, keeps}
use Rattle.stack_patch.proofs.laws.patches_of_a_stack.Goals as goal

pub returns : goal.returns
returns c = record {
  lawful = options_lawful;
  reader = reads;
  set = λ text v taken read. set_read text v read taken;
  stack = keeps;
}
