pub mod Laws
pub mod Pairs
pub mod Refusals
pub mod Faults
pub mod Letters
pub mod Records
