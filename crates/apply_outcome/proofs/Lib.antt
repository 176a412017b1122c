pub mod Writing
pub mod Moving
mod PastMarks
mod MoreWritten
mod Roomy
mod Rejecting
pub mod Marks
mod TestByTest
mod Telling
