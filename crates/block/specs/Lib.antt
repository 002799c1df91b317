pub mod Check
pub mod Faults
pub mod Heads
pub mod Layout
pub mod Reading
pub mod Writing
