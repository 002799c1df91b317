-- The record of an event: the letter in byte 0, and zeros.
use Rattle.std.specs.Prelude.{ℕ, cond, List, ◌++◌, Ok, Err, Result}
use Rattle.std.specs.List.{between}
use Rattle.station.specs.Records.{Records, unless_used}
use Rattle.station.specs.declared.letters.Letter.TheVariants.{S}
use Rattle.station.specs.declared.records.RecordFault.{RecordFault}
use Rattle.station.specs.declared.records.RecordFault.TheVariants.{Limit}
use Rattle.byte_fields.specs.Numbers.{digits, field}
use Rattle.byte_fields.specs.Unused.{zeros, first_used}
use Rattle.lock.specs.Events.{is_letter, lock_event}
use Rattle.lock.specs.declared.events.LockEvent.{LockEvent}

-- the event with a letter, or the fault at the letter's place
abbrev pub placed_event : ℕ → ℕ → Result LockEvent RecordFault
placed_event place c = cond (is_letter c) (Ok (lock_event c)) (Err (Limit place))

abbrev pub event_read : List ℕ → Result LockEvent RecordFault
event_read bs = unless_used 1 (first_used (between 1 16 bs)) (placed_event 0 (field 0 1 bs))

abbrev pub event_written : LockEvent → List ℕ
event_written i = digits 1 i.letter ++ zeros 15

abbrev pub event_records : Records LockEvent
event_records = record { letter = S; reading = event_read; written = event_written }
