pub mod Pieces
pub mod Waiting
pub mod Batches
pub mod Ordered
pub mod Moving
