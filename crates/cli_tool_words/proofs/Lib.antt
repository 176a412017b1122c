pub mod Free
pub mod Items
pub mod Selection
pub mod Lawful
pub mod Making
pub mod Reading
pub mod Calling
pub mod Retools
