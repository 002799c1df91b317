-- The record of a job: arrival in bytes 0 to 5, service in 6 to 9, and zeros.
use Rattle.std.specs.Prelude.{ℕ, cond, List, ◌++◌, Ok, Err, Result, nat_lt}
use Rattle.std.specs.List.{between}
use Rattle.station.specs.Records.{Records, unless_used}
use Rattle.station.specs.declared.letters.Letter.TheVariants.{F}
use Rattle.station.specs.declared.records.RecordFault.{RecordFault}
use Rattle.station.specs.declared.records.RecordFault.TheVariants.{Limit}
use Rattle.byte_fields.specs.Numbers.{digits, field}
use Rattle.byte_fields.specs.Unused.{zeros, first_used}
use Rattle.server.specs.Clock.{clock_end, service_limit}
use Rattle.server.specs.Server.{job}
use Rattle.server.specs.declared.jobs.Job.{Job}

-- the job with an arrival and a service, or the place of the first that is over its limit
abbrev pub placed_job : ℕ → ℕ → Result Job RecordFault
placed_job a s = cond (nat_lt clock_end a) (Err (Limit 0)) (cond (nat_lt service_limit s) (Err (Limit 6)) (Ok (job a s)))

abbrev pub job_read : List ℕ → Result Job RecordFault
job_read bs = unless_used 10 (first_used (between 10 16 bs)) (placed_job (field 0 6 bs) (field 6 10 bs))

abbrev pub job_written : Job → List ℕ
job_written i = digits 6 i.arrival ++ (digits 4 i.service ++ zeros 6)

abbrev pub job_records : Records Job
job_records = record { letter = F; reading = job_read; written = job_written }
