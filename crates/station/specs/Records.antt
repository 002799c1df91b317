-- Records: items as 16 bytes.
use Rattle.std.specs.Prelude.{◌≡◌, ℕ, ◌+◌, ◌<◌, cond, nat_lt, List, length, Some, None, Ok, Err, Option, Result, slice_index}
use Rattle.station.specs.Faults.{Placed, placed}
use Rattle.station.specs.declared.letters.Letter.{Letter}
use Rattle.station.specs.declared.records.RecordFault.{RecordFault}
use Rattle.station.specs.declared.records.RecordFault.TheVariants as fault
use Rattle.station.specs.declared.refusals.Refusal.TheVariants.{Layout, ItemLimit}

abbrev pub record_fault : RecordFault → Placed
record_fault (fault.Layout place) = placed Layout place
record_fault (fault.Limit place) = placed ItemLimit place

-- the refusal of bytes that must be zero, from a place on, of which the first that is not has a number; else the rest
abbrev pub unless_used : {I : Type 0} → ℕ → Option ℕ → Result I RecordFault → Result I RecordFault
unless_used from None rest = rest
unless_used from (Some used) rest = Err (fault.Layout (from + used))

-- the number of a field that begins at a place, or its fault where it is over the limit
abbrev pub within_limit : ℕ → ℕ → ℕ → Result ℕ RecordFault
within_limit place limit n = cond (nat_lt limit n) (Err (fault.Limit place)) (Ok n)

-- the letter of a kind, what its records read as, and the record of an item
pub record Records (I : Type 0) : Type 0 where
  pub letter : Letter
  pub reading : List ℕ → Result I RecordFault
  pub written : I → List ℕ

-- 16 bytes
pub record IsRecord (bs : List ℕ) : Type 0 where
  pub whole : length bs ≡ 16
  pub small : (k : ℕ) → slice_index bs k < 256

-- What is read counts as an item, and its record is what was read; what is written is a record.
pub record RecordLaws {I : Type 0} (is_item : I → Type 0) (r : Records I) : Type 0 where
  pub read_counts : (bs : List ℕ) (i : I) → IsRecord bs → r.reading bs ≡ Ok i → is_item i
  pub read_written : (bs : List ℕ) (i : I) → IsRecord bs → r.reading bs ≡ Ok i → bs ≡ r.written i
  pub written_record : (i : I) → IsRecord (r.written i)
