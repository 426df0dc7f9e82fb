pub mod Tells
pub mod Grounds
pub mod Answered
