-- The record of a locked slot: a slot's, with the letter in byte 6.
use Rattle.std.specs.Prelude.{ℕ, List, ◌++◌, Ok, Err, Result}
use Rattle.std.specs.List.{between}
use Rattle.station.specs.Records.{Records, unless_used}
use Rattle.station.specs.Pairs.{pair}
use Rattle.station.specs.declared.pairing.Pair.{Pair}
use Rattle.station.specs.declared.letters.Letter.TheVariants.{Q}
use Rattle.station.specs.declared.records.RecordFault.{RecordFault}
use Rattle.byte_fields.specs.Numbers.{digits, field}
use Rattle.byte_fields.specs.Unused.{zeros, first_used}
use Rattle.buffer.specs.Records.{slot_in}
use Rattle.buffer.specs.declared.slots.Slot.{Slot}
use Rattle.lock.specs.Records.{placed_event}
use Rattle.lock.specs.declared.events.LockEvent.{LockEvent}

-- an event beside a slot, or the event's fault
abbrev pub beside_slot : Slot → Result LockEvent RecordFault → Result (Pair LockEvent Slot) RecordFault
beside_slot s (Err e) = Err e
beside_slot s (Ok event) = Ok (pair event s)

abbrev pub locked_read : List ℕ → Result (Pair LockEvent Slot) RecordFault
locked_read bs = unless_used 7 (first_used (between 7 16 bs)) (beside_slot (slot_in bs) (placed_event 6 (field 6 7 bs)))

abbrev pub locked_written : Pair LockEvent Slot → List ℕ
locked_written p = digits 2 p.second.arrivals ++ (digits 2 p.second.service ++ (digits 2 p.second.limit ++ (digits 1 p.first.letter ++ zeros 9)))

abbrev pub locked_records : Records (Pair LockEvent Slot)
locked_records = record { letter = Q; reading = locked_read; written = locked_written }
