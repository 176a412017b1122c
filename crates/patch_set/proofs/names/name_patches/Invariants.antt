use Rattle.patch_options.specs.PlainJob.{plain_options}
use Rattle.patch_set.proofs.Walked.{AreWalked}
use Rattle.patch_set.proofs.names.name_patches.Given as goal

abbrev pub invariant-loop-patch : goal.invariant-loop-patch
invariant-loop-patch l = AreWalked (plain_options l.options) l.text l.fn.numbers l.numbers l.patch-index l.fn.patches l.patches
