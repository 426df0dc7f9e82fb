pub mod Stores
pub mod Fields
pub mod Written
pub mod Computing
