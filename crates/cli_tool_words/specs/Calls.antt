-- The calls that the words of a filter are: with several FILEs one for each of them, which has all words but the other FILEs (manual pages of
-- patchutils).
use Rattle.std.specs.Prelude.{List, [], ◌∷◌, ◌++◌, map, codes, Bool, true, false, not, ◌&&◌, if◌then◌else◌}
use Rattle.std.specs.List.{list_any}
use Rattle.std.specs.Option.{option_map_or}
use Rattle.clap.specs.Words.{Text}
use Rattle.patch_options.specs.Forms.{is_front}
use Rattle.patch_options.specs.Whole.{whole_words}
use Rattle.cli_tool_words.specs.Operands.{kept_of, word_if}
use Rattle.cli_tool_words.specs.Retooling.{asked_words, give_file}
use Rattle.cli_tool_words.specs.Tools.{table_of, tool_named}
use Rattle.cli_tool_words.specs.declared.operands.Next.TheVariants.{Any}
use Rattle.cli_tool_words.specs.declared.tools.Tool.{Tool}
use Rattle.cli_tool_words.specs.declared.tools.Tool.TheVariants.{Lsdiff, Filterdiff, Grepdiff, Splitdiff, Recountdiff, Patchgen, Reversediff, Patchstack}

-- tools that take several FILEs. `reversediff` takes one: turned round, the last text would have to come first
abbrev pub takes_files : Tool → Bool
takes_files Lsdiff = true
takes_files Filterdiff = true
takes_files Grepdiff = true
takes_files Splitdiff = false
takes_files Recountdiff = true
takes_files Patchgen = false
takes_files Reversediff = false
takes_files Patchstack = false

-- a pattern leads in front of them
abbrev pub has_lead : Tool → Bool
has_lead Lsdiff = false
has_lead Filterdiff = false
has_lead Grepdiff = true
has_lead Splitdiff = false
has_lead Recountdiff = false
has_lead Patchgen = false
has_lead Reversediff = false
has_lead Patchstack = false

-- so it does, unless a file has the patterns
abbrev pub leads : Tool → List Text → Bool
leads tool words = has_lead tool && not (give_file (table_of tool) false words)

-- the words behind the tool's name that are FILEs, or all but these
abbrev pub operands_of : Bool → Tool → List Text → List Text
operands_of files tool words = kept_of files (table_of tool) (leads tool words) Any words

-- words for what isn't a list
abbrev pub asks_output : List Text → Bool
asks_output words = list_any (is_front (codes "--output-matching")) words

-- lines of a list have the name of their FILE in front, where there are several
abbrev pub is_labelled : Tool → List Text → Bool
is_labelled Lsdiff words = true
is_labelled Filterdiff words = false
is_labelled Grepdiff words = not (asks_output words)
is_labelled Splitdiff words = false
is_labelled Recountdiff words = false
is_labelled Patchgen words = false
is_labelled Reversediff words = false
is_labelled Patchstack words = false

abbrev pub label : Tool → List Text → List Text
label tool words = word_if (is_labelled tool words) (codes "-H")

-- one FILE is the call as it stands
abbrev pub each : List Text → List Text → List Text → List (List Text)
each words others [] = words ∷ []
each words others (file ∷ []) = words ∷ []
each words others (file ∷ (other ∷ more)) = map (λ f. others ++ f ∷ []) (file ∷ (other ∷ more))

-- all words but the FILEs, with the label behind the name of the tool
abbrev pub others_of : Tool → Text → List Text → List Text
others_of tool name words = (name ∷ [] ++ label tool words) ++ operands_of false tool words

-- by the words whose long names are whole
abbrev pub calls_whole : Tool → List Text → List Text → List (List Text)
calls_whole tool words [] = words ∷ []
calls_whole tool words (name ∷ rest) = each words (others_of tool name rest) (operands_of true tool rest)

unfoldable pub calls_by : Tool → List Text → List (List Text)
calls_by tool words = if takes_files tool then calls_whole tool words (whole_words (table_of tool) words) else words ∷ []

-- by the words with the name of their tool in front
unfoldable pub calls_in : List Text → List (List Text)
calls_in [] = [] ∷ []
calls_in (first ∷ rest) = option_map_or (λ tool. calls_by tool (first ∷ rest)) (tool_named first) ((first ∷ rest) ∷ [])

-- the calls that the words are, in the order of their FILEs; the first word names the tool, which others can make another one
unfoldable pub calls_of : List Text → List (List Text)
calls_of words = calls_in (asked_words words)
