pub mod Decimals
pub mod Pages
pub mod Printed
