pub mod Lcg
pub mod Texts
pub mod Patches
pub mod Tree
