mod Steps
pub mod Same
mod Whole
