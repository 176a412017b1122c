pub mod Joined
pub mod Named
pub mod Walked
pub mod Found
pub mod Made
pub mod Completing
pub mod InTurn
pub mod Verdicts
pub mod OneView
pub mod InBytes
mod Skipping
mod BareHeaders
pub mod Roomy
mod Refusing
