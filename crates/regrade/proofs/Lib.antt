pub mod Rewritten
pub mod SecondPlan
pub mod Cases
pub mod Computing
pub mod AcceptedRegrading
