pub mod Computed
pub mod FullSheet
pub mod WorkedCases
pub mod FurtherSheets
pub mod Peach
pub mod Printed
