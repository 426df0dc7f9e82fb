pub mod TwoInARow
pub mod ThreeInARow
pub mod Anchor
