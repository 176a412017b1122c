pub mod Refusals
pub mod Ordered
pub mod Flipped
pub mod Marks
pub mod HeaderText
