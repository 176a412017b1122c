pub mod Unnumbered
pub mod Said
pub mod Following
pub mod Joins
pub mod TurnedPatches
pub mod AsShown
pub mod MadePatches
pub mod Plain
