pub mod LeftToRight
pub mod Verdict
pub mod Refusals
