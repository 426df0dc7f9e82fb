pub mod Integers
pub mod Counts
pub mod Step
pub mod LargestForm
