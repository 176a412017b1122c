mod Refusing
mod Gathering
mod Utf8
mod Changing
mod Written
mod TargetNames
mod Given
pub mod Reader
pub mod Sets
pub mod Lawful
