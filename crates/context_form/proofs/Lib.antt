pub mod SliceLemmas
pub mod Loops
pub mod MergeIs
pub mod MergeLemmas
pub mod MergeLaws
pub mod Spaced
mod Capped
pub mod RangeGrammar
pub mod PartLemmas
pub mod JoinLemmas
pub mod Halves
pub mod HalvesAgain
pub mod Pieces
pub mod Unbroken
pub mod MixedLemmas
pub mod Canonical
pub mod Again
mod StepLemmas
pub mod Steady
pub mod SteadyParts
pub mod HunkFaults
pub mod FirstFault
pub mod Words
pub mod Sorting
pub mod ShownAgain
