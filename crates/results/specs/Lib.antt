pub mod Record
pub mod Written
