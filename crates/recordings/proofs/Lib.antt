pub mod Parts
pub mod Counts
pub mod Cutting
pub mod Passing
pub mod Notes
pub mod Loading
