mod First
mod Folding
pub mod Ready
mod Going
mod RunEnds
mod Applying
mod Turning
mod Refused
mod Barred
mod EndCause
mod DoneNone
mod BackedUp
mod Renaming
mod SaidFirst
mod Keeping
mod Skipping
mod Standing
mod Naming
mod Unwritten
mod Removing
mod TriedFiles
mod Rejected
mod Finishing
pub mod SamePlan
pub mod Matching
pub mod Receipts
pub mod Entry
pub mod Written
