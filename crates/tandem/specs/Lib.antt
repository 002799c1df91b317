pub mod Tandem
pub mod Records
pub mod Counted
pub mod CountedLaws
pub mod JobRecords
pub mod TandemLaws
