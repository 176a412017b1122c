pub mod LeftPatches
pub mod CleanJoins
pub mod ReadAgain
pub mod Turnable
