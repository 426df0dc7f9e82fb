pub mod LeftToRight
pub mod Any
pub mod Grounds
pub mod Checking
pub mod Accepted
pub mod Ranges
pub mod Listed
pub mod Computing
