pub mod Layout
pub mod Acceptance
pub mod Refusals
pub mod Grading
pub mod Answer
