pub mod Pages
pub mod Layout
pub mod Held
pub mod Spots
pub mod Measuring
pub mod Filling
pub mod Copying
