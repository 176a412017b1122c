pub mod OptionLemmas
pub mod Signed
pub mod Digits
pub mod Parts
pub mod Fractions
pub mod NumericLemmas
pub mod NameLemmas
pub mod NamedLemmas
