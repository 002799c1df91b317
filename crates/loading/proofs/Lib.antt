pub mod RecordReads
