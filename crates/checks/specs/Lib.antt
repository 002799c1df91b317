pub mod Readings
pub mod Visits
