pub mod NamedLines
pub mod UnifiedFaults
pub mod ContextFaults
pub mod NormalFaults
pub mod EdFaults
pub mod TextFaults
