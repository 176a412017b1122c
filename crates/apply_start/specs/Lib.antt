pub mod Fitting
pub mod Start
pub mod Skipping
pub mod Devices
pub mod Starting
pub mod Refusing
pub mod Trying
