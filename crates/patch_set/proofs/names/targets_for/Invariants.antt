use Rattle.std.proofs.Common.{◌≡◌, take, All}
use Rattle.patch_options.specs.PlainJob.{plain_options}
use Rattle.read_file_patch.specs.Numbered.{joined_by}
use Rattle.read_file_patch.specs.Targets.{HasTemps}
use Rattle.patch_set.proofs.Joined.{AreTargets}
use Rattle.patch_set.proofs.names.targets_for.Given as goal

abbrev pub invariant-loop-name : goal.invariant-loop-name
invariant-loop-name l = record {
  known : l.numbers ≡ joined_by l.fn.numbers (take l.name-index l.names);
  targets : AreTargets (plain_options l.options) l.numbers (take l.name-index l.names) l.targets.items;
  temps : All HasTemps l.targets.items;
}
