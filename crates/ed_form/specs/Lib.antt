pub mod PlainEdit
pub mod Commands
pub mod Texts
pub mod Scripts
pub mod Grammar
