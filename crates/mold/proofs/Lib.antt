pub mod Checking
pub mod Records
pub mod Written
pub mod Cases
pub mod Computing
pub mod Accepted
