pub mod Integers
pub mod Laws
pub mod Runs
pub mod Computing
