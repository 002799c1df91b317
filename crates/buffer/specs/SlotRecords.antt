-- The laws of a slot's record.
use Rattle.std.specs.Prelude.{◌≡◌, ℕ, List, ◌++◌, drop, None, Ok, Result, refl}
use Rattle.std.proofs.Common.{ap, subst, ◌∙◌, arith, rules}
use Rattle.std.specs.List.{between}
use Rattle.station.specs.Records.{IsRecord, RecordLaws}
use Rattle.station.specs.declared.records.RecordFault.{RecordFault}
use Rattle.station.proofs.RecordWays.{unless_used_lem}
use Rattle.byte_fields.specs.Numbers.{digits, field}
use Rattle.byte_fields.specs.Unused.{zeros, first_used}
use Rattle.byte_fields.proofs.NumberLaws.{digits_small, zeros_small, append_small}
use Rattle.byte_fields.proofs.Layouts.{field_first, unused_last, field_below}
use Rattle.buffer.specs.Steps.{slot}
use Rattle.buffer.specs.Summaries.{buffer_rules}
use Rattle.buffer.specs.Records.{slot_in, slot_read, slot_written, slot_records}
use Rattle.buffer.specs.declared.slots.Slot.{Slot}

pub slot_counts : (bs : List ℕ) → IsRecord bs → buffer_rules.is_item (slot_in bs)
slot_counts bs r =
    let a = field_below bs 0 2 r.small (omega (arith, r.whole)) in
    let c = field_below bs 2 4 r.small (omega (arith, r.whole)) in
    let b = field_below bs 4 6 r.small (omega (arith, r.whole)) in
    search rules

-- a record is the digits of the slot in it, and what is behind them
pub slot_first : (bs : List ℕ) → IsRecord bs → bs ≡ digits 2 (field 0 2 bs) ++ (digits 2 (field 2 4 bs) ++ (digits 2 (field 4 6 bs) ++ drop 6 bs))
slot_first bs r =
    let a = field_first bs 0 2 r.small (omega arith) (omega (arith, r.whole)) in
    let c = field_first bs 2 4 r.small (omega arith) (omega (arith, r.whole)) in
    let b = field_first bs 4 6 r.small (omega arith) (omega (arith, r.whole)) in
    cc

whole : (bs : List ℕ) → IsRecord bs → first_used (between 6 16 bs) ≡ None → bs ≡ slot_written (slot_in bs)
whole bs r unused =
    let front = slot_first bs r in
    let rest = unused_last bs 6 r.whole unused in
    cc

record Was (bs : List ℕ) (i : Slot) : Type 0 where
  unused : first_used (between 6 16 bs) ≡ None
  is : slot_in bs ≡ i

was : (bs : List ℕ) (i : Slot) → slot_read bs ≡ Ok i → Was bs i
was bs i p =
    let u = unless_used_lem 6 (first_used (between 6 16 bs)) (Ok (slot_in bs)) i p in
    let e = u.1 in
    record { unused = u.0; is = cc }

pub slot_laws : RecordLaws buffer_rules.is_item slot_records
unfolding zeros
slot_laws = record {
  read_counts = λ bs i r p. subst buffer_rules.is_item (was bs i p).is (slot_counts bs r);
  read_written = λ bs i r p. whole bs r (was bs i p).unused ∙ ap slot_written (was bs i p).is;
  written_record = λ i. record { whole = refl; small = search (append_small, digits_small, zeros_small) };
}

-- equal numbers make equal slots
pub made : (a c b x y z : ℕ) → x ≡ a → y ≡ c → z ≡ b → ◌≡◌ {A = Result Slot RecordFault} (Ok (slot x y z)) (Ok (slot a c b))
made a c b x y z p q r = cc

-- an item's record reads back as the item
pub slot_back : (i : Slot) → buffer_rules.is_item i → slot_read (slot_written i) ≡ Ok i
unfolding zeros
slot_back i h = search rules
