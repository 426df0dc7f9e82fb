pub mod Tells
pub mod FirstRow
pub mod Decided
pub mod Answered
