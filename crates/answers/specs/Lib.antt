pub mod Demand1
pub mod Grounds
pub mod Bytes
pub mod AnswerInstances
