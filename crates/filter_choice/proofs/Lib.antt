pub mod Rows
mod Ranges
pub mod OldLines
pub mod Placed
mod Outlines
pub mod Digests
