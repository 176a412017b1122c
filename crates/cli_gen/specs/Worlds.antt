-- What must be told of the devices of a run.
use Rattle.std.specs.Prelude.{◌≡◌, true, is_some, Some, Result}
use Rattle.outside.specs.Files.{Files}
use Rattle.patch_options.specs.declared.options.WordFault.{WordFault}
use Rattle.cli_tool_words.specs.PlainJobs.{PlainGenJob}
use Rattle.cli_run_answers.specs.Worlds.{World}
use Rattle.cli_gen.specs.Jobs.{uses_scratch}

-- the tree tells these files, and the scratch its bytes where there is one
pub record Tells (job : Result PlainGenJob WordFault) (w : World) (f : Files) : Type 0 where
  pub files : w.tree.told ≡ Some f
  pub scratch : uses_scratch job ≡ true → is_some w.scratch.told ≡ true
