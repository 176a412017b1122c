pub mod Names
pub mod Fronts
pub mod Styled
pub mod Memory
