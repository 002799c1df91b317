pub mod Capacities
pub mod Levels
pub mod Pastes
pub mod Rows
pub mod Trees
pub mod Unique
pub mod Writings
