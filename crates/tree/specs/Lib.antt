pub mod Capacity
pub mod Placing
pub mod Cells
pub mod Levels
pub mod Answers
