pub mod Cut
pub mod PlanSeen
pub mod Taken
pub mod Places
pub mod Auto
