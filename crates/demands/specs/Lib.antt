pub mod Demand3
pub mod CusumsFit
pub mod LookupGraded
pub mod Instances
pub mod Demands
