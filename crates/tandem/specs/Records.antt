-- The record of a job: arrival in bytes 0 to 5, first service in 6 to 9, second in 10 to 13, and zeros.
use Rattle.std.specs.Prelude.{ℕ, cond, List, ◌++◌, Ok, Err, Result, nat_lt}
use Rattle.std.specs.List.{between}
use Rattle.station.specs.Records.{Records, unless_used}
use Rattle.station.specs.declared.letters.Letter.TheVariants.{T}
use Rattle.station.specs.declared.records.RecordFault.{RecordFault}
use Rattle.station.specs.declared.records.RecordFault.TheVariants.{Limit}
use Rattle.byte_fields.specs.Numbers.{digits, field}
use Rattle.byte_fields.specs.Unused.{zeros, first_used}
use Rattle.server.specs.Clock.{clock_end, service_limit}
use Rattle.tandem.specs.Tandem.{tandem_job}
use Rattle.tandem.specs.declared.jobs.TandemJob.{TandemJob}

-- the job with three numbers, or the place of the first that is over its limit
abbrev pub placed_tandem_job : ℕ → ℕ → ℕ → Result TandemJob RecordFault
placed_tandem_job a s₁ s₂ =
    cond (nat_lt clock_end a) (Err (Limit 0)) (cond (nat_lt service_limit s₁) (Err (Limit 6)) (cond (nat_lt service_limit s₂) (Err (Limit 10)) (Ok (tandem_job a s₁ s₂))))

abbrev pub tandem_job_read : List ℕ → Result TandemJob RecordFault
tandem_job_read bs = unless_used 14 (first_used (between 14 16 bs)) (placed_tandem_job (field 0 6 bs) (field 6 10 bs) (field 10 14 bs))

abbrev pub tandem_job_written : TandemJob → List ℕ
tandem_job_written i = digits 6 i.arrival ++ (digits 4 i.first ++ (digits 4 i.second ++ zeros 2))

abbrev pub tandem_job_records : Records TandemJob
tandem_job_records = record { letter = T; reading = tandem_job_read; written = tandem_job_written }
