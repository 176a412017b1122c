pub mod PlainPatch
pub mod Actions
pub mod Absent
pub mod Candidates
pub mod Moved
pub mod Numbered
pub mod Stripped
pub mod Targets
