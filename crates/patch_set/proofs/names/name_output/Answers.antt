use Rattle.patch_options.specs.PlainJob.{plain_options}
use Rattle.patch_set.proofs.Joined.{output-last}
use Rattle.std.proofs.Common.{subst}
use Rattle.std.proofs.lemmas.Option.{same_Some}
use Rattle.read_file_patch.specs.Targets.{HasTemps}
use Rattle.patch_set.proofs.names.name_output.Goals as goal

pub returns-in_ok-target-in-Some : goal.returns-in_ok-target-in-Some
returns-in_ok-target-in-Some c = record {
  output = (
      output-last (plain_options c.args.options.now) c.args.numbers.now c.target.new.numbers c.in-Some.name c.in_ok-target-in-Some.field-0
      c.in-Some.is c.in_ok-target-in-Some.ensures.known c.in_ok-target-in-Some.ensures.target);
  temps = λ t is. subst HasTemps (same_Some c.in_ok-target-in-Some.field-0 t is) c.in_ok-target-in-Some.ensures.temps;
}
