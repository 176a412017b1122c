pub mod HeldLemmas
pub mod Reached
pub mod Fillings
pub mod Layouts
pub mod Decoding
pub mod Copyings
pub mod Takings
pub mod Worked
