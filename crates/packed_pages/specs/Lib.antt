pub mod Packs
pub mod Layout
pub mod Marks
pub mod Held
pub mod Steps
pub mod Filling
pub mod Copying
pub mod Packing
