pub mod StepThree
pub mod Sheet
