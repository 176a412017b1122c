-- What a fault says of a file of patterns.
use Rattle.std.specs.Prelude.{◌≡◌, ◌≢◌, ◌++◌, ℕ, List, Option, None, Some, Ok, Err}
use Rattle.outside.specs.Files.{Files}
use Rattle.outside.specs.TreeView.{TreeView, Rises}
use Rattle.cli_tool_words.specs.PlainJobs.{PlainSelect}
use Rattle.cli_run_answers.specs.declared.fault.InputFault.{InputFault}
use Rattle.cli_run_answers.specs.declared.fault.InputFault.TheVariants.{NoPatchFile, TooLong, Source, Tree, Disagree, Memory}
use Rattle.filter_whole_text.specs.Outcomes.{patterns_of, selection}
use Rattle.filter_whole_text.specs.Sifting.{NamesPatterns}

-- the patterns of the file that may be named were added to others
abbrev pub Adds : Option (List ℕ) → TreeView → List (List ℕ) → List (List ℕ) → Type 0
Adds name t old new = (f : Files) → (name ≢ None → t.told ≡ Some f) → (more : List (List ℕ)) × (patterns_of name f ≡ Ok more) × (new ≡ old ++ more)

-- the file that may be named
abbrev pub HasPatternCause : InputFault → Option (List ℕ) → TreeView → TreeView → Type 0
HasPatternCause NoPatchFile name t u = (name ≢ None) × ((f : Files) → t.told ≡ Some f → patterns_of name f ≡ Err NoPatchFile)
HasPatternCause TooLong name t u = (name ≢ None) × ((f : Files) → t.told ≡ Some f → patterns_of name f ≡ Err TooLong)
HasPatternCause Source name t u = ⊥
HasPatternCause Tree name t u = Rises t u
HasPatternCause (Disagree want got) name t u = (name ≢ None) × (want ≢ got) × (t.told ≡ None)
HasPatternCause Memory name t u = Unit {0}

-- both files of a selection
abbrev pub HasSelectionCause : InputFault → PlainSelect → TreeView → TreeView → Type 0
HasSelectionCause NoPatchFile s t u = NamesPatterns s × ((f : Files) → t.told ≡ Some f → selection s f ≡ Err NoPatchFile)
HasSelectionCause TooLong s t u = NamesPatterns s × ((f : Files) → t.told ≡ Some f → selection s f ≡ Err TooLong)
HasSelectionCause Source s t u = ⊥
HasSelectionCause Tree s t u = Rises t u
HasSelectionCause (Disagree want got) s t u = NamesPatterns s × (want ≢ got) × (t.told ≡ None)
HasSelectionCause Memory s t u = Unit {0}
