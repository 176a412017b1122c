pub mod Answers
pub mod Reasons
pub mod Moments
pub mod Worlds
pub mod Outcomes
pub mod Input
