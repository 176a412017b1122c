pub mod ByText
mod Choosing
mod Taking
mod Gathering
pub mod Unwritten
mod Recounting
mod TurnedText
mod PartNames
mod NameLoops
mod Parting
mod OnePart
mod SplitRun
mod DryReading
