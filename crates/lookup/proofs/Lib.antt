pub mod First
pub mod Worst
pub mod Ends
pub mod Cases
pub mod Cut
pub mod Computing
mod SoFar
