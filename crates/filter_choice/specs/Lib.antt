pub mod Selected
pub mod OldLines
pub mod Kept
pub mod Outlined
pub mod Digested
pub mod Shown
