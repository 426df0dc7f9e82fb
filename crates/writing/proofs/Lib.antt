pub mod Writing
pub mod Passing
pub mod Meeting
pub mod Passes
