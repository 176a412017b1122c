-- What must be told of the devices of a command.
use Rattle.std.specs.Prelude.{◌≡◌, true, Some, is_some, Result}
use Rattle.outside.specs.Files.{Files}
use Rattle.patch_options.specs.declared.options.WordFault.{WordFault}
use Rattle.cli_tool_words.specs.declared.jobs.StackOp.{StackOp}
use Rattle.cli_run_answers.specs.Worlds.{World}
use Rattle.cli_stack.specs.Jobs.{AsksFor, IsPushing}

-- the tree tells these files, and the scratch its bytes where a patch is applied
pub record Tells (job : Result StackOp WordFault) (w : World) (f : Files) : Type 0 where
  pub files : w.tree.told ≡ Some f
  pub scratch : AsksFor job IsPushing → is_some w.scratch.told ≡ true
