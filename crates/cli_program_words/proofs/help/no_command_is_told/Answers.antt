use Rattle.cli_program_words.proofs.Keeping.{no_patch, no_tool}
use Rattle.cli_program_words.proofs.help.no_command_is_told.Goals as goal

pub returns-clause-patch : goal.returns-clause-patch
returns-clause-patch c = no_patch

pub returns-clause-tools : goal.returns-clause-tools
returns-clause-tools c = no_tool
