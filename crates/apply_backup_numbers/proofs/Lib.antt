pub mod Each
pub mod Last
pub mod Next
mod Retargeted
