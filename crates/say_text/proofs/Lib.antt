pub mod Saying
mod Growing
