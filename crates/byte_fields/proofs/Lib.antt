pub mod NumberLaws
pub mod Layouts
pub mod Ways
pub mod Zeros
