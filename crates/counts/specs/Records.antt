-- The record of a frame count: the count in bytes 0 and 1, and zeros.
use Rattle.std.specs.Prelude.{ℕ, cond, List, ◌++◌, Ok, Err, Result, nat_lt}
use Rattle.std.specs.List.{between}
use Rattle.station.specs.Records.{Records, unless_used}
use Rattle.station.specs.declared.letters.Letter.TheVariants.{C}
use Rattle.station.specs.declared.records.RecordFault.{RecordFault}
use Rattle.station.specs.declared.records.RecordFault.TheVariants.{Limit}
use Rattle.byte_fields.specs.Numbers.{digits, field}
use Rattle.byte_fields.specs.Unused.{zeros, first_used}
use Rattle.counts.specs.Counts.{frame_count}
use Rattle.counts.specs.declared.frames.FrameCount.{FrameCount}

-- the frame with a count, or the fault at the count's place
abbrev pub placed_frame_count : ℕ → ℕ → Result FrameCount RecordFault
placed_frame_count place n = cond (nat_lt n 16384) (Ok (frame_count n)) (Err (Limit place))

abbrev pub frame_count_read : List ℕ → Result FrameCount RecordFault
frame_count_read bs = unless_used 2 (first_used (between 2 16 bs)) (placed_frame_count 0 (field 0 2 bs))

abbrev pub frame_count_written : FrameCount → List ℕ
frame_count_written i = digits 2 i.count ++ zeros 14

abbrev pub frame_count_records : Records FrameCount
frame_count_records = record { letter = C; reading = frame_count_read; written = frame_count_written }
