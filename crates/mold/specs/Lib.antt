pub mod Levels
pub mod Layout
pub mod Refusals
pub mod Grading
pub mod Results
pub mod Outcome
