-- The record of a counted job: a tandem job's, with the count in bytes 14 and 15.
use Rattle.std.specs.Prelude.{ℕ, List, ◌++◌, Ok, Err, Result}
use Rattle.station.specs.Records.{Records}
use Rattle.station.specs.Pairs.{pair}
use Rattle.station.specs.declared.pairing.Pair.{Pair}
use Rattle.station.specs.declared.letters.Letter.TheVariants.{P}
use Rattle.station.specs.declared.records.RecordFault.{RecordFault}
use Rattle.byte_fields.specs.Numbers.{digits, field}
use Rattle.counts.specs.Records.{placed_frame_count}
use Rattle.counts.specs.declared.frames.FrameCount.{FrameCount}
use Rattle.tandem.specs.Records.{placed_tandem_job}
use Rattle.tandem.specs.declared.jobs.TandemJob.{TandemJob}

-- a job and a count, or the fault of the lower field
abbrev pub counted : Result TandemJob RecordFault → Result FrameCount RecordFault → Result (Pair FrameCount TandemJob) RecordFault
counted (Err e) count = Err e
counted (Ok job) (Err e) = Err e
counted (Ok job) (Ok count) = Ok (pair count job)

abbrev pub counted_read : List ℕ → Result (Pair FrameCount TandemJob) RecordFault
counted_read bs = counted (placed_tandem_job (field 0 6 bs) (field 6 10 bs) (field 10 14 bs)) (placed_frame_count 14 (field 14 16 bs))

abbrev pub counted_written : Pair FrameCount TandemJob → List ℕ
counted_written p = digits 6 p.second.arrival ++ (digits 4 p.second.first ++ (digits 4 p.second.second ++ digits 2 p.first.count))

abbrev pub counted_records : Records (Pair FrameCount TandemJob)
counted_records = record { letter = P; reading = counted_read; written = counted_written }
