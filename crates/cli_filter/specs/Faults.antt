-- Why a filter ends early, by what a part of it says.
use Rattle.std.specs.Prelude.{Result, Ok, Err}
use Rattle.outside.specs.declared.Failed.{Failed}
use Rattle.patch_filters.specs.declared.fault.GrepFault.{GrepFault}
use Rattle.patch_filters.specs.declared.fault.GrepFault.TheVariants as grep
use Rattle.filter_whole_text.specs.declared.fault.FilterFault.{FilterFault}
use Rattle.filter_whole_text.specs.declared.fault.FilterFault.TheVariants.{Pattern, Write, Memory}

abbrev pub of_grep : GrepFault → FilterFault
of_grep grep.Pattern = Pattern
of_grep grep.Write = Write
of_grep grep.Memory = Memory

-- what a filter answers where a sink has answered so
abbrev pub of_sink : Result (Unit {0}) Failed → Result (Unit {0}) FilterFault
of_sink (Ok done) = Ok done
of_sink (Err e) = Err Write

-- and where a search has
abbrev pub of_search : Result (Unit {0}) GrepFault → Result (Unit {0}) FilterFault
of_search (Ok done) = Ok done
of_search (Err e) = Err (of_grep e)
