pub mod Rows
mod Flagged
mod Whole
mod AsWritten
mod Refusals
mod Searching
mod Begun
mod Lined
mod Finding
mod Hits
pub mod Outlined
pub mod Digesting
pub mod HunkTexts
