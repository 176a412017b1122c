pub mod Cutting
pub mod Keeping
pub mod Alike
pub mod Pieces
pub mod Parts
pub mod Walking
pub mod Laying
pub mod Chains
mod Names
mod Headed
mod Kept
mod Shown
mod Blocks
mod EdText
mod Behind
mod NormalBody
mod EdBody
mod Changes
mod Bodies
mod Reading
mod Sides
mod Fitting
mod Standing
mod Turns
mod Placed
mod Splicing
mod Turned
mod Written
