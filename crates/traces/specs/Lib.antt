pub mod Entries
pub mod Lists
pub mod Traces
pub mod Spreading
