pub mod Capped
pub mod Endings
