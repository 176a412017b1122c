pub mod Better
pub mod Choice
pub mod Making
pub mod Rank
