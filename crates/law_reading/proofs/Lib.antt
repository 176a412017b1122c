pub mod Quiet
pub mod Solid
pub mod Spelling
pub mod Joining
pub mod Places
pub mod HeaderLines
pub mod LedLines
pub mod Scripts
pub mod Headers
pub mod Standing
pub mod Finding
pub mod Reading
pub mod Worked
pub mod Lines
pub mod Shown
pub mod Region
pub mod Feeds
pub mod Hunks
pub mod Names
pub mod FlipHeaders
pub mod Headed
pub mod FlipReading
pub mod Stretches
mod MadeNames
mod MadeHunks
mod MadeReading
pub mod Targets
pub mod Free
