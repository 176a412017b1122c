pub mod Pattern
pub mod Matching
pub mod Walking
