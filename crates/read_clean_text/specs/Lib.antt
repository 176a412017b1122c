pub mod Cleaned
pub mod Bare
pub mod Cleaning
pub mod Indents
pub mod Reading
