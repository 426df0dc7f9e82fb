pub mod Cases
pub mod Listed
pub mod Rows
pub mod FirstRow
pub mod Grounds
pub mod Bytes
pub mod AnswerInstances
