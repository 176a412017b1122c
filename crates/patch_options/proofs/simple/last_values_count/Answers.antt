use Rattle.patch_options.proofs.Repeats.{value_again, value_last, value_one, switch_used}
use Rattle.patch_options.proofs.simple.last_values_count.Goals as goal

pub returns : goal.returns
returns c = record {
  again = λ place letter name first last rows one. value_again place letter name rows one first last;
  value = λ place letter name value rows one. value_last place letter name rows one value;
  one = λ place letter name value rows one. value_one place letter name rows one value;
  switch = λ place letter name rows one. switch_used place letter name rows one;
}
