mod Getting
mod LineEnds
pub mod EffectLists
pub mod Filling
pub mod Making
pub mod Placing
pub mod Tidy
