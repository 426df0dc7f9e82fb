pub mod Outcome
pub mod Accepted
