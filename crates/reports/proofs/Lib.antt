pub mod Balancing
pub mod Asked
pub mod Reporting
