pub mod Hand
pub mod Input
pub mod Faults
pub mod Opening
pub mod Loading
