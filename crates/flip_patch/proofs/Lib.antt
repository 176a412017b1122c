mod Loops
mod Refused
mod Ordered
pub mod Placed
