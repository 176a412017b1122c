mod Lines
mod Bared
mod Finding
mod CleanedLines
mod LineForLine
mod Indenting
mod IndentLines
pub mod LongTexts
