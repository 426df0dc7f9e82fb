pub mod Classes
pub mod LineLengths
pub mod Printed
