-- The record of a slot: arrivals in bytes 0 and 1, service in 2 and 3, limit in 4 and 5, and zeros.
use Rattle.std.specs.Prelude.{ℕ, List, ◌++◌, Ok, Result}
use Rattle.std.specs.List.{between}
use Rattle.station.specs.Records.{Records, unless_used}
use Rattle.station.specs.declared.letters.Letter.TheVariants.{B}
use Rattle.station.specs.declared.records.RecordFault.{RecordFault}
use Rattle.byte_fields.specs.Numbers.{digits, field}
use Rattle.byte_fields.specs.Unused.{zeros, first_used}
use Rattle.buffer.specs.Steps.{slot}
use Rattle.buffer.specs.declared.slots.Slot.{Slot}

-- the slot whose numbers stand in some bytes
abbrev pub slot_in : List ℕ → Slot
slot_in bs = slot (field 0 2 bs) (field 2 4 bs) (field 4 6 bs)

abbrev pub slot_read : List ℕ → Result Slot RecordFault
slot_read bs = unless_used 6 (first_used (between 6 16 bs)) (Ok (slot_in bs))

abbrev pub slot_written : Slot → List ℕ
slot_written i = digits 2 i.arrivals ++ (digits 2 i.service ++ (digits 2 i.limit ++ zeros 10))

abbrev pub slot_records : Records Slot
slot_records = record { letter = B; reading = slot_read; written = slot_written }
