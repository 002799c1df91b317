pub mod Tallies
pub mod Counts
pub mod Records
pub mod FrameRecords
pub mod CountLaws
pub mod TallyLaws
