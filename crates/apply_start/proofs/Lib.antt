mod Runs
mod StartSteps
mod StartTaken
mod Deciding
pub mod Places
mod Parting
pub mod Trying
mod Barring
