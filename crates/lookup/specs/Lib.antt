pub mod Records
pub mod Lookup
pub mod Found
pub mod Reading
