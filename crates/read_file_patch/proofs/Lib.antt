pub mod Stripping
pub mod Fronts
pub mod Names
pub mod Maps
