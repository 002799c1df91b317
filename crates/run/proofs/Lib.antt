pub mod Outcomes
pub mod CellSteps
pub mod Onlies
pub mod Steps
pub mod Loads
