pub mod Back
pub mod Checks
pub mod Chunks
pub mod Frames
pub mod Fronts
pub mod HeadBytes
pub mod Laid
pub mod Only
