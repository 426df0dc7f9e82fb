pub mod Kind
pub mod Stop
pub mod Sized
pub mod Texts
