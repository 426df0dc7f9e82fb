pub mod Course
pub mod Demand2
