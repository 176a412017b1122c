pub mod Whole
pub mod Tagged
pub mod Placed
pub mod Chain
pub mod Places
pub mod Faults
pub mod Reading
