pub mod Computing
pub mod Fields
pub mod Whole
