pub mod Calls
pub mod Rules
pub mod Records
pub mod Standing
pub mod Serving
