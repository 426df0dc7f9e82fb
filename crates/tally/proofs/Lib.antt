pub mod Entries
pub mod Gradings
pub mod Cases
pub mod AcceptedSheet
pub mod Computing
