pub mod Offsets
pub mod Units
pub mod Walk
pub mod FromFn
pub mod Computing
