pub mod Recovering
pub mod Computing
