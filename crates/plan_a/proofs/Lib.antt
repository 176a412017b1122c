pub mod Reading
pub mod FirstLong
pub mod Faults
pub mod Ranges
pub mod PlaceLemmas
pub mod Wider
