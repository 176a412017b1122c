pub mod Whole
pub mod Behind
pub mod Early
pub mod Sifted
pub mod Sifters
pub mod Split
pub mod Formed
mod Turning
mod ByText
mod Coming
mod Written
mod InForm
mod Styled
