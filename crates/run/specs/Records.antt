-- The records of a block as leaves.
use Rattle.std.specs.Prelude.{◌≡◌, ℕ, ◌+◌, ◌/◌, cond, List, map, length, Ok, Err, Result, nat_le}
use Rattle.std.proofs.Math.Seq.{paste}
use Rattle.std.specs.List.{AllByRecursion}
use Rattle.station.specs.Laws.{Joins, Rules}
use Rattle.station.specs.Records.{Records}
use Rattle.station.specs.declared.refusals.Refusal.{Refusal}
use Rattle.station.specs.declared.refusals.Refusal.TheVariants.{NoRoom}
use Rattle.loading.specs.Loading.{record_items}
use Rattle.tree.specs.Answers.{places_of, with_leaves}
use Rattle.tree.specs.Cells.{Rejoined}

-- the summaries of records that are all items, pasted into the cells
pub record Lays {S I D : Type 0} (k : Rules S I D) (r : Records I) (place : ℕ) (bs : List ℕ) (before after : List S) : Type 0 where
  pub long : length after ≡ length before
  pub laid : (is : List I) → record_items r bs ≡ Ok is → after ≡ paste before place (map k.of_item is) (length (map k.of_item is))

-- The same as leaves, with the cells above them joined anew; refused, and the cells left, where there is no room for all.
pub record Appends {S I D : Type 0} (j : Joins S) (k : Rules S I D) (r : Records I) (first : ℕ) (bs : List ℕ) (before after : List S) (answer : Result (Unit {0}) Refusal) : Type 0 where
  pub is : answer ≡ cond (nat_le (first + length bs / 16) (places_of before)) (Ok tt) (Err NoRoom)
  pub refused : answer ≡ Err NoRoom → after ≡ before
  pub granted : answer ≡ Ok tt → (is : List I) → record_items r bs ≡ Ok is
      → AllByRecursion k.is_item is × Rejoined j (places_of before) before (with_leaves before first (map k.of_item is)) after
