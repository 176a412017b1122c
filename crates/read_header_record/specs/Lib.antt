pub mod Modes
pub mod Quoted
