pub mod Opens
pub mod Names
pub mod Writes
pub mod Disagreeing
pub mod Taking
pub mod Answering
