pub mod Commands
pub mod Stretches
pub mod Hunks
pub mod Grammar
pub mod FirstFault
pub mod Canonical
