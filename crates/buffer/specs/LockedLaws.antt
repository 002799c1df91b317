-- The laws of a locked slot's record.
use Rattle.std.specs.Prelude.{◌≡◌, ℕ, List, None, Ok, Err, Result, refl}
use Rattle.std.proofs.Common.{ap, subst, ◌∙◌, arith, rules}
use Rattle.std.specs.List.{between}
use Rattle.station.specs.Records.{IsRecord, RecordLaws}
use Rattle.station.specs.Pairs.{pair, pair_rules}
use Rattle.station.specs.declared.pairing.Pair.{Pair}
use Rattle.station.specs.declared.records.RecordFault.{RecordFault}
use Rattle.station.proofs.RecordWays.{unless_used_lem}
use Rattle.byte_fields.specs.Numbers.{field}
use Rattle.byte_fields.specs.Unused.{zeros, first_used}
use Rattle.byte_fields.proofs.NumberLaws.{digits_small, zeros_small, append_small}
use Rattle.byte_fields.proofs.Layouts.{field_first, unused_last}
use Rattle.buffer.specs.Summaries.{buffer_rules}
use Rattle.buffer.specs.declared.slots.Slot.{Slot}
use Rattle.buffer.specs.Records.{slot_in}
use Rattle.buffer.specs.SlotRecords.{slot_counts, slot_first}
use Rattle.lock.specs.Events.{lock_event}
use Rattle.lock.specs.Maps.{lock_rules}
use Rattle.lock.specs.Records.{placed_event}
use Rattle.lock.specs.declared.events.LockEvent.{LockEvent}
use Rattle.lock.specs.EventRecords.{placed}
use Rattle.buffer.specs.Locked.{beside_slot, locked_read, locked_written, locked_records}

record Both (s : Slot) (event : Result LockEvent RecordFault) (p : Pair LockEvent Slot) : Type 0 where
  event_is_read : event ≡ Ok p.first
  slot_is : s ≡ p.second

both : (s : Slot) (event : Result LockEvent RecordFault) (p : Pair LockEvent Slot) → beside_slot s event ≡ Ok p → Both s event p
both s (Err e) p h = record { event_is_read = cc; slot_is = cc }
both s (Ok e) p h = record { event_is_read = cc; slot_is = cc }

-- the item whose numbers stand in some bytes
abbrev item_in : List ℕ → Pair LockEvent Slot
item_in bs = pair (lock_event (field 6 7 bs)) (slot_in bs)

whole : (bs : List ℕ) → IsRecord bs → first_used (between 7 16 bs) ≡ None → bs ≡ locked_written (item_in bs)
whole bs r unused =
    let front = slot_first bs r in
    let letter = field_first bs 6 7 r.small (omega arith) (omega (arith, r.whole)) in
    let rest = unused_last bs 7 r.whole unused in
    cc

record Was (bs : List ℕ) (p : Pair LockEvent Slot) : Type 0 where
  unused : first_used (between 7 16 bs) ≡ None
  is : item_in bs ≡ p
  event_counts : lock_rules.is_item (lock_event (field 6 7 bs))

was : (bs : List ℕ) (p : Pair LockEvent Slot) → locked_read bs ≡ Ok p → Was bs p
was bs p h =
    let u = unless_used_lem 7 (first_used (between 7 16 bs)) (beside_slot (slot_in bs) (placed_event 6 (field 6 7 bs))) p h in
    let b = both (slot_in bs) (placed_event 6 (field 6 7 bs)) p u.1 in
    let e = placed 6 (field 6 7 bs) p.first b.event_is_read in
    record { unused = u.0; is = cc; event_counts = e.counts }

pub locked_laws : RecordLaws (pair_rules lock_rules buffer_rules).is_item locked_records
unfolding zeros
locked_laws = record {
  read_counts = λ bs p r h. let w = was bs p h in subst (pair_rules lock_rules buffer_rules).is_item w.is (w.event_counts, slot_counts bs r);
  read_written = λ bs p r h. let w = was bs p h in whole bs r w.unused ∙ ap locked_written w.is;
  written_record = λ p. record { whole = refl; small = search (append_small, digits_small, zeros_small) };
}

-- an item's record reads back as the item
pub locked_back : (p : Pair LockEvent Slot) → (pair_rules lock_rules buffer_rules).is_item p → locked_read (locked_written p) ≡ Ok p
unfolding zeros
locked_back p h = search rules
