pub mod Coding
mod CodeGrades
mod Parts
pub mod Next
mod OneCode
mod GradingPass
