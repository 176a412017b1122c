pub mod Causes
pub mod Gathering
pub mod Pushes
pub mod Changed
pub mod Given
pub mod Reading
pub mod Keeping
