pub mod Sheet
pub mod Recovering
