pub mod HunksSaid
pub mod Outcome
pub mod Ready
pub mod ContextView
