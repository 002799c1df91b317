pub mod RecordWays
