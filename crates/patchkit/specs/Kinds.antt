-- Which way the words go.
use Rattle.std.specs.Prelude.{ℕ, List, [], ◌∷◌, Option, None, Some}
use Rattle.cli_tool_words.specs.declared.tools.Tool.{Tool}
use Rattle.cli_tool_words.specs.declared.tools.Tool.TheVariants.{Lsdiff, Filterdiff, Grepdiff, Splitdiff, Recountdiff, Patchgen, Reversediff, Patchstack}
use Rattle.cli_tool_words.specs.Tools.{tool_named}
use Rattle.patchkit.specs.declared.kind.ToolKind.{ToolKind}
use Rattle.patchkit.specs.declared.kind.ToolKind.TheVariants.{Patch, Filter, Gen, Stack}

abbrev pub kind_with : Tool → ToolKind
kind_with Lsdiff = Filter
kind_with Filterdiff = Filter
kind_with Grepdiff = Filter
kind_with Splitdiff = Filter
kind_with Recountdiff = Filter
kind_with Patchgen = Gen
kind_with Reversediff = Filter
kind_with Patchstack = Stack

abbrev pub kind_for : Option Tool → ToolKind
kind_for None = Patch
kind_for (Some tool) = kind_with tool

-- the kind of the tool with this name
abbrev pub kind_by : List ℕ → ToolKind
kind_by word = kind_for (tool_named word)

-- the kind of the tool that the first word names; `patch` is no tool of `cli_tool_words`
abbrev pub kind_of : List (List ℕ) → ToolKind
kind_of [] = Patch
kind_of (word ∷ words) = kind_by word
