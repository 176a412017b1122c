-- The commands are simple ones in which no argument has a rule on another, so that what they take is an exact function of the words.
use Rattle.std.proofs.Common.{◌≡◌, true, refl}
use Rattle.clap.specs.Words.{is_simple_and_free}
use Rattle.clap.proofs.OnLiterals.{clap_on_literals}
use Rattle.patch_options.specs.Simple.{simple_command}
use Rattle.cli_tool_words.specs.Tools.{command_of}
use Rattle.cli_tool_words.specs.declared.tools.Tool.{Tool}
use Rattle.cli_tool_words.specs.declared.tools.Tool.TheVariants.{Lsdiff, Filterdiff, Grepdiff, Splitdiff, Recountdiff, Patchgen, Reversediff, Patchstack}

pub command_is_free : (tool : Tool) → is_simple_and_free (command_of tool) ≡ true
unfolding clap_on_literals command_of simple_command
command_is_free Lsdiff = refl
command_is_free Filterdiff = refl
command_is_free Grepdiff = refl
command_is_free Splitdiff = refl
command_is_free Recountdiff = refl
command_is_free Patchgen = refl
command_is_free Reversediff = refl
command_is_free Patchstack = refl
