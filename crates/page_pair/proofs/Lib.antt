pub mod Bytes
pub mod Owners
pub mod Walking
pub mod Halves
pub mod Windows
pub mod Cuts
pub mod Measures
pub mod LongLines
pub mod Opens
mod Pieces
pub mod Readings
pub mod Records
pub mod Rooms
pub mod Told
