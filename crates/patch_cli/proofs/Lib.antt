mod Named
mod Outside
mod Numbered
pub mod Asked
pub mod Early
pub mod Carrying
pub mod SamePlan
mod Stripping
