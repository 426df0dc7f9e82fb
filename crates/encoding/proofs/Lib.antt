pub mod Numbers
pub mod Chunks
