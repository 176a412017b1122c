pub mod Headers
pub mod Starts
pub mod Rejects
pub mod Again
