use Rattle.stack_patch.proofs.Given.{effects_given, number_given, output_given, set_given, targets_given}
use Rattle.stack_patch.proofs.laws.names_given_to_a_run.Goals as goal

pub returns : goal.returns
returns c = record {
  targets = λ o known h lawful. targets_given o known h lawful;
  output = λ o known lawful w is. output_given o known lawful w is;
  numbers = λ o w number is. number_given o w number is;
  items = λ o output items files out each. effects_given o output items files out each;
  set = λ o text v files lawful read. set_given o text v files lawful read;
}
