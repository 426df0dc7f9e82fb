pub mod Ascii
pub mod Text
pub mod Wrote
pub mod TextCases
