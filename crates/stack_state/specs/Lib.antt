pub mod Reading
pub mod Causes
pub mod Steps
pub mod Undoing
