pub mod Regrading
pub mod Outcome
pub mod Regradable
