pub mod Steps
pub mod FailingUnits
pub mod FinishedRun
pub mod Grades
pub mod GradedClasses
pub mod Computing
