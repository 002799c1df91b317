-- The laws of an event's record.
use Rattle.std.specs.Prelude.{◌≡◌, ℕ, ◌<◌, T, List, None, Ok, refl}
use Rattle.std.proofs.Common.{ap, subst, ◌∙◌, arith, rules}
use Rattle.std.specs.List.{between}
use Rattle.std.proofs.lemmas.Float.{T_from_true}
use Rattle.station.specs.Records.{IsRecord, RecordLaws}
use Rattle.station.specs.declared.records.RecordFault.TheVariants.{Limit}
use Rattle.station.proofs.RecordWays.{unless_used_lem}
use Rattle.byte_fields.specs.Numbers.{field}
use Rattle.byte_fields.specs.Unused.{zeros, first_used}
use Rattle.byte_fields.proofs.NumberLaws.{digits_small, zeros_small, append_small}
use Rattle.byte_fields.proofs.Layouts.{field_first, unused_last}
use Rattle.byte_fields.proofs.Ways.{cond_then}
use Rattle.lock.specs.Events.{is_letter, lock_event}
use Rattle.lock.specs.Maps.{lock_rules}
use Rattle.lock.specs.Records.{placed_event, event_read, event_written, event_records}
use Rattle.lock.specs.declared.events.LockEvent.{LockEvent}

-- what a letter that makes an event is
pub record Placed (c : ℕ) (i : LockEvent) : Type 0 where
  pub counts : lock_rules.is_item (lock_event c)
  pub is : lock_event c ≡ i

-- a letter is one byte
pub letter_small : (c : ℕ) → T (is_letter c) → c < 256
letter_small c h = search rules

pub placed : (place c : ℕ) (i : LockEvent) → placed_event place c ≡ Ok i → Placed c i
placed place c i p =
    let b = cond_then (is_letter c) (Ok (lock_event c)) (Limit place) i p in
    let e = b.1 in
    record { counts = T_from_true (is_letter c) b.0; is = cc }

whole : (bs : List ℕ) → IsRecord bs → first_used (between 1 16 bs) ≡ None → bs ≡ event_written (lock_event (field 0 1 bs))
whole bs r unused =
    let letter = field_first bs 0 1 r.small (omega arith) (omega (arith, r.whole)) in
    let rest = unused_last bs 1 r.whole unused in
    cc

pub event_laws : RecordLaws lock_rules.is_item event_records
unfolding zeros
event_laws = record {
  read_counts = λ bs i r p.
      let w = placed 0 (field 0 1 bs) i (unless_used_lem 1 (first_used (between 1 16 bs)) _ i p).1 in
      subst lock_rules.is_item w.is w.counts;
  read_written = λ bs i r p.
      let u = unless_used_lem 1 (first_used (between 1 16 bs)) (placed_event 0 (field 0 1 bs)) i p in
      whole bs r u.0 ∙ ap event_written (placed 0 (field 0 1 bs) i u.1).is;
  written_record = λ i. record { whole = refl; small = search (append_small, digits_small, zeros_small) };
}

-- a letter is read as the event with that letter
pub made : (place c x : ℕ) → T (is_letter c) → x ≡ c → placed_event place x ≡ Ok (lock_event c)
made place c x h p = search rules

-- an item's record reads back as the item
pub event_back : (i : LockEvent) → lock_rules.is_item i → event_read (event_written i) ≡ Ok i
unfolding zeros
event_back i h = search rules
