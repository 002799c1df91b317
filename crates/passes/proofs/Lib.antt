pub mod Lines
pub mod Along
pub mod Told
pub mod Behind
