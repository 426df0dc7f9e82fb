pub mod Conditions
pub mod Words
pub mod Unit
pub mod BestLower
pub mod Records
