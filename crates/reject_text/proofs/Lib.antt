pub mod Again
pub mod Balance
pub mod Moved
pub mod Nets
pub mod Rows
pub mod Unbroken
pub mod Signed
