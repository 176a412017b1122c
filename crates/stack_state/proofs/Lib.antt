mod Named
mod Counting
mod Stacking
mod Saving
mod Held
pub mod Stepping
pub mod Restoring
