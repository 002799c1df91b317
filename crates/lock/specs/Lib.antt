pub mod States
pub mod Events
pub mod Maps
pub mod Records
pub mod MapLaws
pub mod LockLaws
pub mod EventRecords
