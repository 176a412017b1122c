pub mod Numbering
pub mod Renumbered
