pub mod SinglePlan
pub mod Passing
