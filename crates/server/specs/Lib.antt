pub mod Clock
pub mod Server
pub mod Records
pub mod JobRecords
pub mod ServerLaws
pub mod ClockLaws
