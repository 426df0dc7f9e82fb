pub mod Codes
pub mod OneCode
